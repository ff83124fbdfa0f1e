use Rattle.std.proofs.Common.{◌≡◌, ◌*◌, ◌^◌, take}
use Rattle.bl_problem.specs.Sums.{IsWithin}
use Rattle.bl_prop.specs.Passes.{least_of}
use Rattle.bl_prop.proofs.slack.least_sum.Given as goal

abbrev pub invariant-loop-term : goal.invariant-loop-term
invariant-loop-term l = record {
  exact : l.sum ≡ least_of l.negate (take l.term-index l.terms) l.lows l.highs;
  within : IsWithin (l.term-index * 10 ^ 24) l.sum;
}
