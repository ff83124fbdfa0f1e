use Rattle.std.proofs.Common.{Bool, IfOk, sym, subst}
use Rattle.std.proofs.lemmas.Result.{IfOk-weaker}
use Rattle.bl_search.specs.Places.{SplitsAt}
use Rattle.bl_tree.specs.Views.{past_of}
use Rattle.bl_run.specs.Splitting.{IsSplitBy}
use Rattle.bl_run.proofs.Splitting.{half_places, fraction_places}
use Rattle.bl_run.proofs.searching.search_one.Goals as goal

pub returns-then-in_middle-clause-places : goal.returns-then-in_middle-clause-places
returns-then-in_middle-clause-places c =
    subst (λ (b : Bool). IfOk c.search_tree.result
    (λ search. SplitsAt (IsSplitBy b) c.args.problem.now.value (past_of search.tree)))
    (sym c.if-in_middle.true)
    (IfOk-weaker c.search_tree.result _ _ (λ search h. half_places _ _ (λ d x place met. met.0)
    c.args.problem.now.value (past_of search.tree) h) c.search_tree.ensures.places)

pub returns-else-in_middle-clause-places : goal.returns-else-in_middle-clause-places
returns-else-in_middle-clause-places c =
    subst (λ (b : Bool). IfOk c.search_tree-else-in_middle.result
    (λ search. SplitsAt (IsSplitBy b) c.args.problem.now.value (past_of search.tree)))
    (sym c.if-in_middle.false)
    (IfOk-weaker c.search_tree-else-in_middle.result _ _
    (λ search h. fraction_places _ _ (λ d x place met. met.0) c.args.problem.now.value
    (past_of search.tree) h) c.search_tree-else-in_middle.ensures.places)
