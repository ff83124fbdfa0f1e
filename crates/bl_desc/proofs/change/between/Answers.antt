use Rattle.std.proofs.Common.{ap, sym, subst, ◌∙◌}
use Rattle.std.proofs.lemmas.Result.{IfOk-weaker}
use Rattle.bl_desc.specs.declared.change.Change.{Change}
use Rattle.bl_desc.specs.Changes.{changed, Fits}
use Rattle.bl_desc.proofs.Canonical.{changed-difference}
use Rattle.bl_desc.specs.Weights.{IsFewest, ChangeHasShortLists}
use Rattle.bl_desc.proofs.Ranges.{difference_fits, difference_is_short}
use Rattle.bl_desc.proofs.Fewest.{difference_fewest}
use Rattle.bl_desc.proofs.change.between.Goals as goal

pub returns-clause-applied : goal.returns-clause-applied
returns-clause-applied g c =
    IfOk-weaker c.differing.result _ _
    (λ change e. ap (λ (m : Change g.row.C.Denot). changed m c.args.parent.now) e
    ∙ changed-difference g.C.Item.id_of c.args.parent.now c.args.child.now c.requires.parent
    c.requires.child c.requires.columns c.requires.rows c.requires.part)
    c.differing.ensures

pub returns-clause-fewest : goal.returns-clause-fewest
returns-clause-fewest g c =
    IfOk-weaker c.differing.result _ _
    (λ change e. subst (λ (m : Change g.row.C.Denot). IsFewest m c.args.parent.now
    c.args.child.now) (sym e)
    (difference_fewest g.C.Item.id_of c.args.parent.now c.args.child.now c.requires.parent
    c.requires.parent_ids c.requires.part))
    c.differing.ensures

pub returns-clause-fits : goal.returns-clause-fits
returns-clause-fits g c =
    IfOk-weaker c.differing.result _ _
    (λ change e. subst (λ (m : Change g.row.C.Denot). Fits m c.args.parent.now) (sym e)
    (difference_fits g.C.Item.id_of c.args.parent.now c.args.child.now c.requires.parent))
    c.differing.ensures

pub returns-clause-short : goal.returns-clause-short
returns-clause-short g c =
    IfOk-weaker c.differing.result _ _
    (λ change e. subst (λ (m : Change g.row.C.Denot). ChangeHasShortLists m) (sym e)
    (difference_is_short g.C.Item.id_of c.args.parent.now c.args.child.now c.requires.parent
    c.requires.part c.requires.short_columns c.requires.short_rows c.requires.short_parent
    c.requires.short_child))
    c.differing.ensures
