use Rattle.std.proofs.Common.{◌≡◌, take}
use Rattle.bl_prop.specs.Passes.{cut_terms}
use Rattle.bl_prop.proofs.pass.Pass.cut_terms.Given as goal

abbrev pub invariant-loop-term : goal.invariant-loop-term
invariant-loop-term l = l.self ≡ cut_terms l.negate l.slack (take l.term-index l.terms)
    l.initial.self
