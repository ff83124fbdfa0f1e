use Rattle.std.proofs.Common.{◌≡◌, take}
use Rattle.bl_problem.specs.Points.{costs_of}
use Rattle.bl_bound.specs.Units.{greatest_of}
use Rattle.bl_bound.proofs.units.greatest.Given as goal

abbrev pub invariant-loop-row : goal.invariant-loop-row
invariant-loop-row l = l.best ≡ greatest_of l.base (costs_of l.columns) l.lows l.highs
    (take l.row-index l.rows)
