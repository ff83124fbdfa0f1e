use Rattle.bl_node.proofs.Moving.{moves-then}
use Rattle.bl_node.proofs.improve.use_hints.Goals as goal

pub loop-hint-preserved : goal.loop-hint-preserved
loop-hint-preserved c =
    moves-then c.args.problem.now c.args.parent.now c.args.state.now c.loop-hint.state
    c.fix_by_hint.new.state c.loop-hint.invariant c.in_ok-fix_by_hint.ensures
