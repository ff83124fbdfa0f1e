use Rattle.bl_node.specs.Sides.{IsSideOf}
use Rattle.bl_node.specs.declared.sides.Side.{Side}
use Rattle.bl_node.proofs.Moving.{moves-then}
use Rattle.bl_node.proofs.Siding.{side-closed}
use Rattle.bl_node.proofs.sides.is_closed.Goals as goal

pub returns : goal.returns
returns c = λ e cutoff s x q m.
    let p = c.args.problem.now in
    let f = c.args.parent.now in
    let side : Side = c.in-Some.side in
    let is : IsSideOf p f c.args.state.now c.args.decision side =
    rw c.in-Some.is at c.in_ok-side.ensures.side in
    let last = c.bound_by-2.new.state in
    let first = moves-then p side.desc side.state c.bound_by.new.state c.propagate.new.state
    c.bound_by.ensures c.in_ok-propagate.ensures in
    let moves = moves-then p side.desc side.state c.propagate.new.state last first
    c.bound_by-2.ensures in
    side-closed p f cutoff c.args.state.now last c.args.decision side is moves
    (c.is_shut_empty.ensures.shut e) (c.is_shut_empty.ensures.none e) s x q m
