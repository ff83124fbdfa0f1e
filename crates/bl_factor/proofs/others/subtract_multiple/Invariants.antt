use Rattle.bl_factor.proofs.SparseLemmas.{IsLess}
use Rattle.bl_factor.proofs.others.subtract_multiple.Given as goal

abbrev pub invariant-loop-entry : goal.invariant-loop-entry
invariant-loop-entry l = IsLess l.initial.right l.entries l.factor l.entry-index l.right
