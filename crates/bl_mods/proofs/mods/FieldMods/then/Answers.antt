use Rattle.std.proofs.Common.{◌≡◌, ◌<◌, List, ap, sym, ◌∙◌, subst}
use Rattle.std.specs.Prelude.{All}
use Rattle.std.proofs.lemmas.Result.{IfOk-weaker}
use Rattle.bl_mods.specs.declared.mods.Mod.{Mod}
use Rattle.bl_mods.specs.Mods.{written}
use Rattle.bl_mods.specs.InTurn.{overlaid}
use Rattle.bl_mods.proofs.Overlays.{written-overlaid, All-overlaid}
use Rattle.bl_mods.proofs.mods.FieldMods.then.Goals as goal

pub returns-clause-applied : goal.returns-clause-applied
returns-clause-applied g c =
    IfOk-weaker c.overlay.result _ _
    (λ both e list.
    let f : both ≡ overlaid c.args.self.now c.args.later.now =
    e ∙ (ap (λ (l : List (Mod g.row.T.Denot)). overlaid l c.entries-2.result.now)
    c.entries.ensures.entries
    ∙ ap (λ (l : List (Mod g.row.T.Denot)). overlaid c.args.self.now l)
    c.entries-2.ensures.entries) in
    ap (λ (l : List (Mod g.row.T.Denot)). written l list) f
    ∙ written-overlaid 0 c.args.self.now c.args.later.now list c.entries.ensures.rising)
    c.overlay.ensures

pub returns-clause-fits : goal.returns-clause-fits
returns-clause-fits g c =
    IfOk-weaker c.overlay.result _ _
    (λ both e n a b.
    let f : both ≡ overlaid c.args.self.now c.args.later.now =
    e ∙ (ap (λ (l : List (Mod g.row.T.Denot)). overlaid l c.entries-2.result.now)
    c.entries.ensures.entries
    ∙ ap (λ (l : List (Mod g.row.T.Denot)). overlaid c.args.self.now l)
    c.entries-2.ensures.entries) in
    subst (λ (l : List (Mod g.row.T.Denot)). All (λ m. m.place < n) l) (sym f)
    (All-overlaid (λ m. m.place < n) c.args.self.now c.args.later.now a b))
    c.overlay.ensures
