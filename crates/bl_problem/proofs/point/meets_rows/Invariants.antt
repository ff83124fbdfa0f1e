use Rattle.std.proofs.Common.{take, All}
use Rattle.bl_problem.specs.Rows.{MeetsRow}
use Rattle.bl_problem.proofs.point.meets_rows.Given as goal

abbrev pub invariant-loop-row : goal.invariant-loop-row
invariant-loop-row l = All (MeetsRow l.point) (take l.row-index l.rows)
