use Rattle.bl_factor.specs.Support.{IsRising}
use Rattle.bl_factor.proofs.support.places_of.Given as goal

abbrev pub invariant-loop-place : goal.invariant-loop-place
invariant-loop-place l = IsRising 0 l.place l.places.items
