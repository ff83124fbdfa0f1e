use Rattle.std.proofs.Common.{◌≡◌, take, fold, max}
use Rattle.bl_mps.proofs.scale.places_of.Given as goal

abbrev pub invariant-loop-entry : goal.invariant-loop-entry
invariant-loop-entry l = l.places
    ≡ fold (λ n e. max n e.number.places) 0 (take l.entry-index l.entries)
