use Rattle.std.proofs.Common.{◌≡◌, take}
use Rattle.bl_bound.specs.Steps.{taken_terms}
use Rattle.bl_bound.proofs.sums.take_terms.Given as goal

abbrev pub invariant-loop-term : goal.invariant-loop-term
invariant-loop-term l = taken_terms l.y (take l.term-index l.terms) l.initial.sums ≡ l.sums
