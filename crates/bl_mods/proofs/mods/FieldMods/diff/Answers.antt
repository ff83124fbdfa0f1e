use Rattle.std.proofs.Common.{◌≤◌, List, length, ap, sym, ◌∙◌, subst}
use Rattle.std.proofs.lemmas.Result.{IfOk-weaker}
use Rattle.bl_mods.specs.declared.mods.Mod.{Mod}
use Rattle.bl_mods.specs.Mods.{written}
use Rattle.bl_mods.proofs.Differences.{written-differences}
use Rattle.bl_mods.proofs.Diffing.{differences_fewest}
use Rattle.bl_mods.proofs.mods.FieldMods.diff.Goals as goal

pub returns-clause-applied : goal.returns-clause-applied
returns-clause-applied g c sound =
    IfOk-weaker c.differing.result _ _
    (λ mods e. ap (λ (l : List (Mod g.row.T.Denot)). written l c.args.old.now) e
    ∙ written-differences g.T.PartialEq.eq sound c.args.old.now c.args.new.now
    c.requires.same_length) c.differing.ensures

pub returns-clause-fewest : goal.returns-clause-fewest
returns-clause-fewest g c =
    IfOk-weaker c.differing.result _ _
    (λ mods e others w. subst (λ (l : List (Mod g.row.T.Denot)). length l ≤ length others) (sym e)
    (differences_fewest g.T.PartialEq.eq g.met.T.Eq.laws.refl c.args.old.now c.args.new.now
    others w))
    c.differing.ensures
