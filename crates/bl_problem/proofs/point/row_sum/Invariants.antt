use Rattle.std.proofs.Common.{◌≡◌, ◌*◌, ◌^◌, take}
use Rattle.bl_problem.specs.Sums.{IsWithin, sum_of_terms}
use Rattle.bl_problem.proofs.point.row_sum.Given as goal

abbrev pub invariant-loop-term : goal.invariant-loop-term
invariant-loop-term l = record {
  exact : l.sum ≡ sum_of_terms (take l.term-index l.terms) l.point;
  within : IsWithin (l.term-index * 10 ^ 24) l.sum;
}
