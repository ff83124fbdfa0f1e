use Rattle.bl_factor.specs.Making.{Reduces}
use Rattle.bl_factor.proofs.anew.made_anew.Given as goal

abbrev pub invariant-loop-step : goal.invariant-loop-step
invariant-loop-step l = Reduces l.columns l.reduction
