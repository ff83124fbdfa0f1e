use Rattle.bl_bound.specs.Descriptions.{Describes}
use Rattle.bl_heur.proofs.guiding.descend_by.Given as goal

abbrev pub invariant-loop-near : goal.invariant-loop-near
invariant-loop-near l = Describes l.fn.problem l.end
