use Rattle.std.proofs.Common.{◌≡◌}
use Rattle.bl_bound.specs.Bounds.{sum_at}
use Rattle.bl_fix.specs.Gaps.{decisions_below}
use Rattle.bl_fix.proofs.deciding.decisions.Given as goal

abbrev pub invariant-loop-j : goal.invariant-loop-j
invariant-loop-j l = l.decisions ≡ decisions_below l.j l.gap (sum_at l.costs) l.lows l.highs
