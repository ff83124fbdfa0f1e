use Rattle.std.proofs.Common.{sym, subst}
use Rattle.std.proofs.lemmas.Result.{IfOk-weaker}
use Rattle.bl_mods.specs.declared.mods.ListMods.{ListMods}
use Rattle.bl_mods.specs.InTurn.{DoesBoth, DropsWithin}
use Rattle.bl_mods.proofs.InTurn.{does_both, within_both}
use Rattle.bl_mods.proofs.mods.ListMods.then.Goals as goal

pub returns-clause-applied : goal.returns-clause-applied
returns-clause-applied g c =
    IfOk-weaker c.relist_in_turn.result _ _
    (λ both e. subst (λ (m : ListMods g.row.C.Denot). DoesBoth c.args.length c.args.self.now
    c.args.later.now m) (sym e)
    (does_both c.args.length c.args.self.now c.args.later.now c.relist_in_turn.ensures.first_rises
    c.relist_in_turn.ensures.later_rises c.requires.within))
    c.relist_in_turn.ensures.exact

pub returns-clause-within : goal.returns-clause-within
returns-clause-within g c =
    IfOk-weaker c.relist_in_turn.result _ _
    (λ both e. subst (λ (m : ListMods g.row.C.Denot). DropsWithin c.args.length m) (sym e)
    (within_both c.args.length c.args.self.now c.args.later.now
    c.relist_in_turn.ensures.first_rises c.requires.within))
    c.relist_in_turn.ensures.exact
