use Rattle.std.proofs.Common.{◌≡◌}
use Rattle.std.specs.Prelude.{drop, ◌&&◌}
use Rattle.bl_journal.specs.States.{has_point}
use Rattle.bl_tree.proofs.search.has_point.Given as goal

abbrev pub invariant-loop-i : goal.invariant-loop-i
invariant-loop-i l = has_point l.lows l.highs
    ≡ (l.ordered && has_point (drop l.i l.lows) (drop l.i l.highs))
