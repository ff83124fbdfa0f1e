use Rattle.std.proofs.Common.{◌≡◌}
use Rattle.std.specs.Prelude.{take}
use Rattle.bl_problem.specs.Points.{lows_of}
use Rattle.bl_tree.proofs.root.own_lows.Given as goal

abbrev pub invariant-loop-column : goal.invariant-loop-column
invariant-loop-column l = l.lows ≡ lows_of (take l.column-index l.columns)
