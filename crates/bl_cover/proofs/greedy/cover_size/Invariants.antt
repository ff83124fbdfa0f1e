use Rattle.std.proofs.Common.{◌≡◌, ◌+◌, ◌*◌, ◌^◌, ℕ, drop, option_map}
use Rattle.bl_problem.specs.Sums.{IsWithin}
use Rattle.bl_cover.specs.Greedy.{cover_size}
use Rattle.bl_cover.proofs.greedy.cover_size.Given as goal

abbrev pub invariant-loop-place : goal.invariant-loop-place
invariant-loop-place l = record {
  exact : cover_size l.room l.order
      ≡ option_map (λ (k : ℕ). l.place + k) (cover_size l.left (drop l.place l.order));
  within : IsWithin (10 ^ 28 + l.place * 10 ^ 15) l.left;
}
