use Rattle.bl_factor.proofs.SparseLemmas.{HasEntries}
use Rattle.bl_factor.proofs.sparse.spread.Given as goal

abbrev pub invariant-loop-entry : goal.invariant-loop-entry
invariant-loop-entry l = HasEntries l.entries l.entry-index l.column
