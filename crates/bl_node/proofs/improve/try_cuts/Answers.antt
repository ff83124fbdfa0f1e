use Rattle.bl_problem.specs.declared.cut.Cut.{Cut}
use Rattle.bl_desc.specs.declared.desc.Desc.{Desc}
use Rattle.bl_cover.specs.declared.separator.Try.{Try}
use Rattle.bl_node.proofs.Moving.{cut-moves-then, as-cut-moves, moves-none}
use Rattle.bl_node.proofs.Renaming.{drop-moves}
use Rattle.bl_node.proofs.improve.try_cuts.Goals as goal

pub returns-then-is_worth : goal.returns-then-is_worth
returns-then-is_worth g c =
    let p = c.args.problem.now in
    let f = c.args.parent.now in
    let allows : Desc Cut → Try → Type 0 = g.S.Separate.allows c.args.separator.now p in
    let trial = c.cut_rounds.new.state in
    let last = c.drop_basic.new.state in
    cut-moves-then allows p f c.args.state.now trial last
    (rw c.in_ok-trial.ensures at c.in_ok-last.ensures)
    (drop-moves allows p f trial last c.in_ok-drop_basic.ensures)

pub returns : goal.returns
returns g c =
    let p = c.args.problem.now in
    let f = c.args.parent.now in
    let state = c.args.state.now in
    as-cut-moves (g.S.Separate.allows c.args.separator.now p) p f state state
    (moves-none p f state c.requires.within)
