use Rattle.bl_node.proofs.Moving.{cut-moves-then}
use Rattle.bl_node.proofs.improve.cut_rounds.Goals as goal

pub returns-then-stalls-eq-STALLS : goal.returns-then-stalls-eq-STALLS
returns-then-stalls-eq-STALLS g c =
    cut-moves-then (g.S.Separate.allows c.args.separator.now c.args.problem.now)
    c.args.problem.now c.args.parent.now c.args.state.now c.loop.state
    c.cut_round-in-loop.new.state c.loop.invariant c.in_ok-next.ensures

pub loop-preserved : goal.loop-preserved
loop-preserved g c =
    cut-moves-then (g.S.Separate.allows c.args.separator.now c.args.problem.now)
    c.args.problem.now c.args.parent.now c.args.state.now c.loop.state
    c.cut_round-in-loop.new.state c.loop.invariant c.in_ok-next.ensures

pub returns-then-is_none : goal.returns-then-is_none
returns-then-is_none g c =
    cut-moves-then (g.S.Separate.allows c.args.separator.now c.args.problem.now)
    c.args.problem.now c.args.parent.now c.args.state.now c.loop.state
    c.cut_round-in-loop.new.state c.loop.invariant c.in_ok-next.ensures
