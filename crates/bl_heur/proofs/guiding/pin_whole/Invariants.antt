use Rattle.bl_problem.specs.Program.{Program}
use Rattle.bl_bound.specs.Descriptions.{Describes}
use Rattle.bl_heur.proofs.guiding.pin_whole.Given as goal

abbrev pub invariant-loop-near : goal.invariant-loop-near
invariant-loop-near l = (p : Program) → Describes p l.initial.desc → Describes p l.desc
