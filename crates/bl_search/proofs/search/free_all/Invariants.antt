use Rattle.bl_journal.specs.Freeing.{standing_of}
use Rattle.bl_tree.specs.Views.{past_of}
use Rattle.bl_search.specs.Searches.{IsKeptUp}
use Rattle.bl_search.proofs.search.free_all.Given as goal

abbrev pub invariant-loop : goal.invariant-loop
invariant-loop l = IsKeptUp l.initial.tree l.tree

abbrev pub decreases-loop : goal.decreases-loop
decreases-loop l = standing_of l.tree.problem (past_of l.tree)
