use Rattle.std.proofs.Common.{rules}
use Rattle.bl_problem.specs.declared.cut.Cut.{Cut}
use Rattle.bl_desc.specs.declared.desc.Desc.{Desc}
use Rattle.bl_cover.specs.declared.separator.Try.{Try}
use Rattle.bl_node.specs.Outcomes.{form_of}
use Rattle.bl_node.specs.Standing.{box_of}
use Rattle.bl_node.proofs.Assembly.{sound-shut}
use Rattle.bl_node.proofs.Moving.{known-first, named-first, tried-first}
use Rattle.bl_node.proofs.Restating.{narrows-restated, shrinks-restated}
use Rattle.bl_node.proofs.Shrinking.{shrinks_then}
use Rattle.bl_node.proofs.Promising.{promised, adds-cuts, if-so}
use Rattle.bl_node.proofs.Naming.{none-fresh}
use Rattle.bl_branch.specs.Calls.{Answers}
use Rattle.bl_node.proofs.node.after_pass.Goals as goal

pub returns-then-state-clause-sound : goal.returns-then-state-clause-sound
returns-then-state-clause-sound g c = λ cutoff s.
    let k = c.in_ok-guess.ensures.known cutoff
    (known-first c.args.problem.now c.args.parent.now cutoff c.args.work c.args.limits.now s) in
    record {
      sound = rw (c.shut.ensures.found, c.shut.ensures.low, c.shut.ensures.next)
          (sound-shut c.args.problem.now c.args.parent.now cutoff c.improve.new.state.work
          k.stands (k.none (search rules)));
      better = rw c.shut.ensures.found k.stands.better;
    }

pub returns-clause-split : goal.returns-clause-split
returns-clause-split g c =
    let p = c.args.problem.now in
    let f = c.args.parent.now in
    let old = c.args.work in
    let mid = c.improve.new.state.work in
    let w = c.settle.new.work in
    let same = c.in_ok-settle.ensures.same in
    let moves = c.in_ok-guess.ensures in
    if-so c.finish.result
    (λ o h. promised g.F.Fn c.args.rule.now.closure p f (form_of c.args.limits.now) old w _ o h
    (shrinks_then (box_of old.desc) (box_of mid.desc) (box_of w.desc) moves.shrinks
    (shrinks-restated mid w same))
    (rw same.low moves.low) c.requires.met c.requires.units
    (narrows-restated p f mid w same (moves.within c.if-state.false)))
    c.finish.ensures.split

pub returns-clause-adds : goal.returns-clause-adds
returns-clause-adds g c =
    let f = c.args.parent.now in
    let mid = c.improve.new.state in
    let w = c.settle.new.work in
    let moves = c.in_ok-guess.ensures in
    let p = c.args.problem.now in
    let allows : Desc Cut → Try → Type 0 =
    g.S.Separate.allows c.args.separator.now c.args.problem.now in
    let first = named-first f c.args.work c.args.limits.now c.requires.cuts (none-fresh f.cuts)
    c.requires.names in
    let none = tried-first allows p f c.args.work c.args.limits.now c.requires.cuts
    (none-fresh f.cuts) in
    if-so c.finish.result
    (λ o h. adds-cuts allows p f (form_of c.args.limits.now) (λ place. Answers g.F.Fn
    c.args.rule.now.closure w.desc _ place) c.args.limits.now mid w o moves.limits
    (moves.cuts.named first) (moves.cuts.tried none) c.in_ok-settle.ensures.same.cuts h)
    c.finish.ensures.split

pub improve-requires-clause-named : goal.improve-requires-clause-named
improve-requires-clause-named g c = λ κs lives. named-first c.args.parent.now c.args.work
    c.args.limits.now c.requires.cuts (none-fresh c.args.parent.now.cuts) c.requires.names
