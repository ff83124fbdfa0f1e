use Rattle.std.proofs.Common.{subst, sym, List}
use Rattle.std.specs.Prelude.{All, ◌<◌}
use Rattle.bl_mods.specs.declared.mods.Mod.{Mod}
use Rattle.bl_mods.proofs.RisingLemmas.{AreRising-push}
use Rattle.bl_mods.proofs.mods.FieldMods.push.Goals as goal

pub invariant_of-self-2 : goal.invariant_of-self-2
invariant_of-self-2 g c = rw (c.in_ok-push.ensures.ok)
    (AreRising-push _ _ c.self.invariant
    (subst (λ (l : List (Mod g.row.T.Denot)). All (λ m. m.place < c.args.place) l)
    (sym c.self.view_is) c.requires))
