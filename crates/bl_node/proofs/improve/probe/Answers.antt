use Rattle.bl_node.proofs.Moving.{moves-then}
use Rattle.bl_node.proofs.improve.probe.Goals as goal

pub returns-in_ok-close_side-2 : goal.returns-in_ok-close_side-2
returns-in_ok-close_side-2 c =
    moves-then c.args.problem.now c.args.parent.now c.args.state.now c.close_side.new.state
    c.close_side-then-not-branch.new.state c.in_ok-close_side.ensures
    c.in_ok-close_side-2.ensures
