use Rattle.std.proofs.Common.{◌≤◌}
use Rattle.bl_simplex.proofs.simplex.Simplex.run.Given as goal

abbrev pub invariant-loop-step : goal.invariant-loop-step
invariant-loop-step l = l.pivots ≤ l.step
