use Rattle.std.proofs.Common.{◌≡◌, ◌*◌, ◌^◌, take}
use Rattle.bl_problem.specs.Sums.{IsWithin}
use Rattle.bl_cuts.specs.OneRow.{quotients_sum}
use Rattle.bl_cuts.proofs.one_row.quotients_sum.Given as goal

abbrev pub invariant-loop-term : goal.invariant-loop-term
invariant-loop-term l = record {
  exact : quotients_sum l.weight l.q (take l.term-index l.terms) l.entries ≡ l.sum;
  within : IsWithin (l.term-index * (10 ^ 15 * 2 ^ 40)) l.sum;
}
