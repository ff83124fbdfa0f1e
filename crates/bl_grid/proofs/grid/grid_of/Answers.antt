use Rattle.bl_grid.proofs.OnGrid.{by-one}
use Rattle.bl_grid.proofs.grid.grid_of.Goals as goal

pub returns-else-divisor-gt1-clause-divides : goal.returns-else-divisor-gt1-clause-divides
returns-else-divisor-gt1-clause-divides c = by-one c.args.problem.now
