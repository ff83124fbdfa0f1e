use Rattle.bl_node.specs.Moves.{Moves}
use Rattle.bl_node.proofs.improve.settle_bounds.Given as goal

abbrev pub invariant-loop : goal.invariant-loop
invariant-loop l = Moves l.fn.problem l.fn.parent l.fn.state l.state
