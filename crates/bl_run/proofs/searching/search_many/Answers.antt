use Rattle.std.proofs.Common.{Bool, IfOk, sym, subst}
use Rattle.std.proofs.lemmas.Result.{IfOk-weaker}
use Rattle.bl_search.specs.Places.{SplitsAt}
use Rattle.bl_tree.specs.Views.{past_of}
use Rattle.bl_run.specs.Splitting.{IsSplitBy}
use Rattle.bl_run.proofs.Splitting.{half_places, fraction_places}
use Rattle.bl_run.proofs.searching.search_many.Goals as goal

pub returns-then-middle-clause-places : goal.returns-then-middle-clause-places
returns-then-middle-clause-places g c =
    subst (λ (b : Bool). IfOk c.search_shared.result
    (λ search. SplitsAt (IsSplitBy b) c.args.problem.now.value (past_of search.tree)))
    (sym c.if-middle.true)
    (IfOk-weaker c.search_shared.result _ _ (λ search h. half_places _ _ (λ d x place met. met.0)
    c.args.problem.now.value (past_of search.tree) h) c.search_shared.ensures.places)

pub returns-else-middle-clause-places : goal.returns-else-middle-clause-places
returns-else-middle-clause-places g c =
    subst (λ (b : Bool). IfOk c.search_shared-else-middle.result
    (λ search. SplitsAt (IsSplitBy b) c.args.problem.now.value (past_of search.tree)))
    (sym c.if-middle.false)
    (IfOk-weaker c.search_shared-else-middle.result _ _
    (λ search h. fraction_places _ _ (λ d x place met. met.0) c.args.problem.now.value
    (past_of search.tree) h) c.search_shared-else-middle.ensures.places)
