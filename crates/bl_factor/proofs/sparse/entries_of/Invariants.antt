use Rattle.bl_factor.proofs.SparseLemmas.{IsPart}
use Rattle.bl_factor.proofs.sparse.entries_of.Given as goal

abbrev pub invariant-loop-place : goal.invariant-loop-place
invariant-loop-place l = IsPart l.column l.place l.entries.items
