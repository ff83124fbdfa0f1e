use Rattle.bl_node.proofs.Moving.{moves-then}
use Rattle.bl_node.proofs.improve.test_sides.Goals as goal

pub loop-tried-preserved : goal.loop-tried-preserved
loop-tried-preserved c =
    moves-then c.args.problem.now c.args.parent.now c.args.state.now c.loop-tried.state
    c.close_side.new.state c.loop-tried.invariant c.in_ok-close_side.ensures
