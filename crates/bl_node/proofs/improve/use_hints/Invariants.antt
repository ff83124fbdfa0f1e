use Rattle.bl_node.specs.Moves.{Moves}
use Rattle.bl_node.proofs.improve.use_hints.Given as goal

abbrev pub invariant-loop-hint : goal.invariant-loop-hint
invariant-loop-hint l = Moves l.fn.problem l.fn.parent l.fn.state l.state
