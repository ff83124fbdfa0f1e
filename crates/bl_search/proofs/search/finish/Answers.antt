use Rattle.std.proofs.Common.{sym, subst}
use Rattle.bl_tree.specs.Views.{TreeView, past_of}
use Rattle.bl_search.specs.Places.{MayAnswer, SplitsAt}
use Rattle.bl_search.specs.Searches.{MayBeWorkedOn}
use Rattle.bl_search.proofs.Places.{places_on}
use Rattle.bl_search.proofs.search.finish.Goals as goal

pub returns-in-Ok-clause-places : goal.returns-in-Ok-clause-places
returns-in-Ok-clause-places g c =
    let P = MayAnswer g.F.Fn c.args.rule.now.closure in
    let here : MayBeWorkedOn c.args.problem.now c.args.span 0 c.args.serial c.args.lease
    c.args.tree.now = record {
      legal = c.journal-journal.ensures.legal;
      problem = c.requires.problem;
      span_is = c.requires.span;
      leased = c.requires.leased;
      serials = c.requires.serials;
    } in
    subst (λ (t : TreeView). SplitsAt P c.args.problem.now (past_of t))
    (sym c.put-born.ensures.entry)
    (places_on P c.args.problem.now c.args.tree.now _
    (c.in-Ok.ensures c.args.tree.now here).places c.requires.places)
