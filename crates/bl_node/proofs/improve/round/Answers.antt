use Rattle.bl_node.proofs.Moving.{moves-then}
use Rattle.bl_node.proofs.improve.round.Goals as goal

pub returns : goal.returns
returns c =
    let p = c.args.problem.now in
    let f = c.args.parent.now in
    let last = c.propagate.new.state in
    moves-then p f c.args.state.now c.learn.new.state last c.learn.ensures
    (moves-then p f c.learn.new.state c.bound_by_row.new.state last c.in_ok-bound_by_row.ensures
    (moves-then p f c.bound_by_row.new.state c.try_points.new.state last c.in_ok-try_points.ensures
    (moves-then p f c.try_points.new.state c.try_dive.new.state last c.in_ok-try_dive.ensures
    (moves-then p f c.try_dive.new.state c.fix_by.new.state last c.in_ok-fix_by.ensures
    (moves-then p f c.fix_by.new.state c.test_sides.new.state last c.in_ok-test_sides.ensures
    (moves-then p f c.test_sides.new.state c.probe_all.new.state last c.in_ok-probe_all.ensures
    (moves-then p f c.probe_all.new.state c.keep-guess.new.state last c.keep-guess.ensures
    c.in_ok-propagate.ensures)))))))
