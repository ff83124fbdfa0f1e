use Rattle.std.proofs.Common.{rules, sym, ap, subst, FitsSigned}
use Rattle.std.specs.Int.{w128}
use Rattle.std.proofs.lemmas.Int.{to_z-of_z}
use Rattle.bl_problem.specs.declared.cut.Cut.{Cut}
use Rattle.bl_desc.specs.declared.desc.Desc.{Desc}
use Rattle.bl_node.specs.Boxes.{Shrinks}
use Rattle.bl_node.specs.Standing.{box_of}
use Rattle.bl_node.proofs.First.{shrinks-same}
use Rattle.bl_node.proofs.Keeping.{left}
use Rattle.bl_node.proofs.Moving.{state_with, moves-on, moves-then, risen}
use Rattle.bl_node.proofs.state.raise_to.Goals as goal

pub returns : goal.returns
returns c =
    let p = c.args.problem.now in
    let f = c.args.parent.now in
    let old = c.args.state.now in
    let w = c.raise.new.work in
    let fits : FitsSigned w128 c.raised.result = search rules in
    let same = to_z-of_z w128 c.raised.result fits in
    let given : FitsSigned w128 c.args.bound = search rules in
    let bound = to_z-of_z w128 c.args.bound given in
    moves-then p f old (state_with old w old.is_shut) c.close.new.state
    (moves-on p f old w c.requires.open
    (λ cutoff s. c.raise.ensures.stands p f cutoff s
    (λ x q. rw same (c.raised.ensures.below x
    (rw bound (c.requires.below x (left p f cutoff old.work x s q))))))
    (c.raise.ensures.narrows p f (c.requires.within c.requires.open))
    (subst (λ (d : Desc Cut). Shrinks (box_of old.work.desc) (box_of d))
    (sym c.raise.ensures.same) (shrinks-same (box_of old.work.desc)))
    (risen old.work.low c.raised.result w.low (rw same at c.raise.ensures.low))
    (ap (λ (d : Desc Cut). d.cuts) c.raise.ensures.same))
    c.close.ensures
