use Rattle.std.proofs.Common.{◌≡◌, take}
use Rattle.std.specs.List.{fold}
use Rattle.bl_factor.proofs.SparseLemmas.{less_entry}
use Rattle.bl_factor.proofs.others.rest_after.Given as goal

abbrev pub invariant-loop-entry : goal.invariant-loop-entry
invariant-loop-entry l = fold (less_entry l.right) l.initial.rest (take l.entry-index l.entries)
    ≡ l.rest
