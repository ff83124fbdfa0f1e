use Rattle.std.proofs.Common.{◌≡◌, take, map}
use Rattle.std.specs.List.{fold}
use Rattle.bl_factor.specs.Others.{widened}
use Rattle.bl_factor.proofs.SparseLemmas.{less_entry}
use Rattle.bl_factor.proofs.others.rest_narrow.Given as goal

abbrev pub invariant-loop-entry : goal.invariant-loop-entry
invariant-loop-entry l = fold (less_entry l.right) l.initial.rest
    (take l.entry-index (map widened l.entries)) ≡ l.rest
