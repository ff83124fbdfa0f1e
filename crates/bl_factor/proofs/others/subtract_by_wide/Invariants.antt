use Rattle.std.proofs.Common.{map}
use Rattle.bl_factor.specs.Others.{widened}
use Rattle.bl_factor.proofs.SparseLemmas.{IsLess}
use Rattle.bl_factor.proofs.others.subtract_by_wide.Given as goal

abbrev pub invariant-loop-entry : goal.invariant-loop-entry
invariant-loop-entry l = IsLess l.initial.right (map widened l.entries) l.factor l.entry-index
    l.right
