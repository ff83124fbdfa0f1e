use Rattle.std.proofs.Common.{◌≡◌, ◌^◌, ◌≤◌, length, unsigned_abs}
use Rattle.std.specs.Prelude.{All}
use Rattle.bl_simplex.proofs.answer.point_of.Given as goal

abbrev pub invariant-loop-column : goal.invariant-loop-column
invariant-loop-column l = record {
  long : length l.point.items
      ≡ l.column;
  near : All (λ x. unsigned_abs x.raw ≤ 2 ^ 70) l.point.items;
}
