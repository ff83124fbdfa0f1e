use Rattle.std.proofs.Common.{◌≡◌, List, [], ◌∷◌, ◌++◌, ap, sym, ◌∙◌}
use Rattle.std.proofs.lemmas.Result.{IfOk-weaker}
use Rattle.bl_mods.specs.declared.mods.Mod.{Mod}
use Rattle.bl_mods.specs.InTurn.{overlaid}
use Rattle.bl_mods.proofs.OneMore.{differences-set}
use Rattle.bl_mods.proofs.mods.FieldMods.with_entry.Goals as goal

pub returns-clause-differences : goal.returns-clause-differences
returns-clause-differences g c =
    let one : Mod g.row.T.Denot = record { place = c.args.place; entry = c.args.entry } in
    let is : c.push.new.self ≡ one ∷ [] = c.in_ok-push.ensures.ok
    ∙ ap (λ (l : List (Mod g.row.T.Denot)). l ++ one ∷ []) c.new-one.ensures in
    IfOk-weaker c.then.result _ _
    (λ mods e old new s l d.
    e ∙ (ap (λ (k : List (Mod g.row.T.Denot)). overlaid c.args.self.now k) is
    ∙ (ap (λ (k : List (Mod g.row.T.Denot)). overlaid k (one ∷ [])) s
    ∙ sym (differences-set g.T.PartialEq.eq c.args.place c.args.entry old new l d))))
    c.then.ensures.exact
