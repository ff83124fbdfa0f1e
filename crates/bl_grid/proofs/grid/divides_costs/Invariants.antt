use Rattle.std.proofs.Common.{ℕ, ◌<◌}
use Rattle.bl_num.specs.Exact.{at}
use Rattle.bl_problem.specs.Points.{costs_of}
use Rattle.bl_grid.specs.Grids.{IsMultiple}
use Rattle.bl_grid.proofs.grid.divides_costs.Given as goal

abbrev pub invariant-loop-j : goal.invariant-loop-j
invariant-loop-j l = (k : ℕ) → k < l.j → IsMultiple l.fn.divisor (at (costs_of l.columns) k)
