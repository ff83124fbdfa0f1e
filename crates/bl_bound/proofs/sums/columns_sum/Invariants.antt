use Rattle.std.proofs.Common.{◌≡◌}
use Rattle.bl_num.specs.Checked.{checked_sum}
use Rattle.bl_bound.specs.Steps.{part_at}
use Rattle.bl_bound.proofs.sums.columns_sum.Given as goal

abbrev pub invariant-loop-j : goal.invariant-loop-j
invariant-loop-j l = checked_sum l.initial.sum l.j (part_at l.costs l.lows l.highs) ≡ l.sum
