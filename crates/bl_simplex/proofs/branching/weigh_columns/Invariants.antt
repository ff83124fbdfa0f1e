use Rattle.std.proofs.Common.{length}
use Rattle.bl_simplex.specs.Sides.{IsChoice}
use Rattle.bl_simplex.proofs.branching.weigh_columns.Given as goal

abbrev pub invariant-loop-place : goal.invariant-loop-place
invariant-loop-place l = IsChoice (length l.point) l.height l.choice
