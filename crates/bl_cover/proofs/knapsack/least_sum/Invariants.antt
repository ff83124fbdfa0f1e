use Rattle.std.proofs.Common.{◌≡◌, ◌*◌, ◌^◌, take}
use Rattle.bl_problem.specs.Sums.{IsWithin}
use Rattle.bl_cover.specs.Covers.{least_sum}
use Rattle.bl_cover.proofs.knapsack.least_sum.Given as goal

abbrev pub invariant-loop-term : goal.invariant-loop-term
invariant-loop-term l = record {
  exact : least_sum l.columns (take l.term-index l.terms) ≡ l.sum;
  within : IsWithin (l.term-index * 10 ^ 24) l.sum;
}
