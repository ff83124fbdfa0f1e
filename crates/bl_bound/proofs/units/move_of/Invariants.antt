use Rattle.std.proofs.Common.{◌≡◌, ◌*◌, ◌^◌, take}
use Rattle.bl_problem.specs.Sums.{IsWithin}
use Rattle.bl_problem.specs.Points.{costs_of}
use Rattle.bl_bound.specs.Units.{moved}
use Rattle.bl_bound.proofs.units.move_of.Given as goal

abbrev pub invariant-loop-term : goal.invariant-loop-term
invariant-loop-term l = record {
  exact : l.sum ≡ moved (costs_of l.columns) l.lows l.highs l.y (take l.term-index l.terms);
  within : IsWithin (l.term-index * (3 * 10 ^ 24)) l.sum;
}
