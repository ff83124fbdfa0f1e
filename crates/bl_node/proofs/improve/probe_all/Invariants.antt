use Rattle.bl_node.specs.Moves.{Moves}
use Rattle.bl_node.proofs.improve.probe_all.Given as goal

abbrev pub invariant-loop-column : goal.invariant-loop-column
invariant-loop-column l = Moves l.fn.problem l.fn.parent l.fn.state l.state
