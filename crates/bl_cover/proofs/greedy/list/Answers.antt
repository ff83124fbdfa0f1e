use Rattle.std.proofs.Common.{◌++◌, pos, List, sym, ◌∙◌, ap, get_or}
use Rattle.bl_problem.specs.declared.problem.Term.{Term}
use Rattle.bl_cover.specs.Greedy.{listed}
use Rattle.bl_cover.specs.declared.greedy.Candidate.{Candidate}
use Rattle.bl_cover.proofs.GreedyLaw.{candidates-more}
use Rattle.bl_cover.proofs.greedy.list.Goals as goal

pub loop-term-preserved : goal.loop-term-preserved
loop-term-preserved c =
    let d : Term = record { column = 0; coefficient = pos 0 } in
    let m = candidates-more c.args.columns.now c.args.point.now c.args.terms.now
    c.loop-term.term-index d c.loop-term-test.true in
    m ∙ ap (λ (cs : List Candidate). cs ++ listed c.args.columns.now c.args.point.now
    (get_or c.args.terms.now c.loop-term.term-index d)) c.loop-term.invariant
    ∙ sym c.in_ok-list_term.ensures
