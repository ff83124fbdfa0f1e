use Rattle.std.proofs.Common.{◌<◌, ℕ, List, subst, sym}
use Rattle.std.specs.Prelude.{All}
use Rattle.bl_mods.proofs.RisingLemmas.{IsRising-push}
use Rattle.bl_mods.proofs.mods.Places.push.Goals as goal

pub invariant_of-self-2 : goal.invariant_of-self-2
invariant_of-self-2 c = rw (c.in_ok-push.ensures.ok)
    (IsRising-push _ _ c.self.invariant
    (subst (λ (l : List ℕ). All (λ p. p < c.args.place) l) (sym c.self.view_is) c.requires))
