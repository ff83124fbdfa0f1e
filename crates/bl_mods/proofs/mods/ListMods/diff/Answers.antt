use Rattle.std.proofs.Common.{ap, ◌∙◌}
use Rattle.std.proofs.lemmas.Result.{IfOk-weaker}
use Rattle.bl_mods.specs.declared.mods.ListMods.{ListMods}
use Rattle.bl_mods.specs.Mods.{relisted}
use Rattle.bl_mods.proofs.Differences.{relisted-differences}
use Rattle.bl_mods.proofs.mods.ListMods.diff.Goals as goal

pub returns-clause-applied : goal.returns-clause-applied
returns-clause-applied g c =
    IfOk-weaker c.differing.result _ _
    (λ mods e. ap (λ (m : ListMods g.row.C.Denot). relisted m c.args.old.now) e
    ∙ relisted-differences g.C.Item.id_of c.args.old.now c.args.new.now c.requires.part)
    c.differing.ensures
