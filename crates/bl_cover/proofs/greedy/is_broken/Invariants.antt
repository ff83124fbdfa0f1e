use Rattle.std.proofs.Common.{◌≡◌, ◌*◌, ◌^◌, take}
use Rattle.bl_problem.specs.Sums.{IsWithin, total}
use Rattle.bl_cover.specs.declared.greedy.Candidate.{Candidate}
use Rattle.bl_cover.proofs.greedy.is_broken.Given as goal

abbrev pub invariant-loop-candidate : goal.invariant-loop-candidate
invariant-loop-candidate l = record {
  exact : total (λ (c : Candidate). c.entry) (take l.candidate-index l.taken) ≡ l.sum;
  within : IsWithin (l.candidate-index * 2 ^ 70) l.sum;
}
