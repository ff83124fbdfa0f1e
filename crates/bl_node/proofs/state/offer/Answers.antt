use Rattle.std.proofs.Common.{arith, rules, sym, ap, ◌∙◌, subst}
use Rattle.std.proofs.lemmas.Int.{ints}
use Rattle.std.proofs.lemmas.List.{length-map}
use Rattle.bl_problem.specs.Points.{IsFeasible, InBox, lows_of, highs_of}
use Rattle.bl_problem.specs.declared.problem.Column.{Column}
use Rattle.bl_problem.specs.declared.cut.Cut.{Cut}
use Rattle.bl_problem.proofs.Boxes.{box-width, box-near}
use Rattle.bl_desc.specs.declared.desc.Desc.{Desc}
use Rattle.bl_node.specs.Boxes.{Shrinks}
use Rattle.bl_node.specs.Standing.{box_of}
use Rattle.bl_node.proofs.First.{shrinks-same}
use Rattle.bl_node.proofs.Moving.{state_with, moves-on, moves-then}
use Rattle.bl_node.proofs.state.offer.Goals.{After-accept-arg-1}
use Rattle.bl_node.proofs.state.offer.Goals as goal

feasible : (c : After-accept-arg-1) → IsFeasible c.args.problem.now c.args.point
feasible c = rw c.as_slice-else-not-is_inside.ensures at (c.is_feasible.ensures.0 (search rules))

pub accept-requires-clause-width : goal.accept-requires-clause-width
accept-requires-clause-width c =
    let w = box-width (lows_of c.args.problem.now.columns) (highs_of c.args.problem.now.columns)
    c.args.point (feasible c).box in
    sym w.lows ∙ length-map c.args.problem.now.columns (λ (k : Column). k.low)

pub accept-requires-clause-near : goal.accept-requires-clause-near
accept-requires-clause-near c = box-near c.args.problem.now.columns c.args.point
    c.columns-columns.ensures.program.columns (feasible c).box

pub returns : goal.returns
returns c =
    let p = c.args.problem.now in
    let f = c.args.parent.now in
    let old = c.args.state.now in
    let w = c.accept.new.work in
    let inside : InBox f.lows f.highs c.args.point =
    rw (c.as_slice.ensures, c.as_slice-else-state.ensures, c.as_slice-else-state-2.ensures) at
    (c.is_inside.ensures (search rules)) in
    moves-then p f old (state_with old w old.is_shut) c.close.new.state
    (moves-on p f old w c.if-state.false
    (λ cutoff s. c.accept.ensures.stands f cutoff inside s)
    (c.accept.ensures.narrows f (c.requires.within c.if-state.false))
    (subst (λ (d : Desc Cut). Shrinks (box_of old.work.desc) (box_of d))
    (sym c.accept.ensures.same) (shrinks-same (box_of old.work.desc)))
    (rw c.accept.ensures.low (omega (arith, ints)))
    (ap (λ (d : Desc Cut). d.cuts) c.accept.ensures.same))
    c.close.ensures
