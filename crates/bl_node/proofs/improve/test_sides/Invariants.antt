use Rattle.bl_node.specs.Moves.{Moves}
use Rattle.bl_node.proofs.improve.test_sides.Given as goal

abbrev pub invariant-loop-tried : goal.invariant-loop-tried
invariant-loop-tried l = Moves l.fn.problem l.fn.parent l.fn.state l.state
