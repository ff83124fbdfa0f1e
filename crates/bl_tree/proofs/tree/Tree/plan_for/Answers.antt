use Rattle.std.proofs.Common.{◌≡◌, Some, None, Option, ℕ, ap, sym, ◌∙◌, subst}
use Rattle.bl_desc.specs.declared.desc.Form.{Form}
use Rattle.bl_journal.specs.Births.{node_at}
use Rattle.bl_journal.specs.Legality.{MayEncode, HasUnfreedParent}
use Rattle.bl_tree.specs.Views.{TreeView, past_of, IsLegalTree}
use Rattle.bl_tree.proofs.Chained.{known}
use Rattle.bl_tree.proofs.Encodings.{may_encode}
use Rattle.bl_tree.proofs.tree.Tree.plan_for.Goals as goal

pub whole_plan-requires-clause-stands : goal.whole_plan-requires-clause-stands
whole_plan-requires-clause-stands c =
    let legal = subst (λ (t : TreeView). IsLegalTree t) c.self.view_is
    (record { steps = c.self.invariant.follows.legal }) in
    (may_encode c.args.self.now c.args.id c.args.form legal.steps c.requires.born
    c.requires.open).not_freed

pub unreachable-requires : goal.unreachable-requires
unreachable-requires c =
    let k = c.self.invariant.follows in
    let f = known c.self.inside.problem c.self.inside.settings c.self.inside.journal.entries
    c.args.self.now c.self.inside.kept.records.items c.args.id c.index.result.now
    c.self.view_is c.requires.born k.records k.storage c.index.ensures in
    let legal = subst (λ (t : TreeView). IsLegalTree t) c.self.view_is
    (record { steps = k.legal }) in
    let t = c.args.self.now in
    let may = subst (λ (x : Form). MayEncode t.problem t.settings (past_of t) c.args.id x)
    c.in-Relative.is (may_encode t c.args.id c.args.form legal.steps c.requires.born
    c.requires.open) in
    let parent : (node_at t.problem (past_of t) c.args.id).parent ≡ None =
    ap (λ (v : TreeView). (node_at v.problem (past_of v) c.args.id).parent) (sym c.self.view_is)
    ∙ (sym f.storage.parent ∙ c.in_default.is) in
    let no : HasUnfreedParent (past_of t) None =
    subst (λ (o : Option ℕ). HasUnfreedParent (past_of t) o) parent may.related.1 in
    no

pub relative_plan-requires-clause-parent : goal.relative_plan-requires-clause-parent
relative_plan-requires-clause-parent c =
    let k = c.self.invariant.follows in
    let f = known c.self.inside.problem c.self.inside.settings c.self.inside.journal.entries
    c.args.self.now c.self.inside.kept.records.items c.args.id c.index.result.now
    c.self.view_is c.requires.born k.records k.storage c.index.ensures in
    ap (λ (v : TreeView). (node_at v.problem (past_of v) c.args.id).parent) (sym c.self.view_is)
    ∙ (sym f.storage.parent ∙ c.in-Some.is)

pub relative_plan-requires-clause-parent_stands : goal.relative_plan-requires-clause-parent_stands
relative_plan-requires-clause-parent_stands c =
    let k = c.self.invariant.follows in
    let f = known c.self.inside.problem c.self.inside.settings c.self.inside.journal.entries
    c.args.self.now c.self.inside.kept.records.items c.args.id c.index.result.now
    c.self.view_is c.requires.born k.records k.storage c.index.ensures in
    let legal = subst (λ (t : TreeView). IsLegalTree t) c.self.view_is
    (record { steps = k.legal }) in
    let t = c.args.self.now in
    let may = subst (λ (x : Form). MayEncode t.problem t.settings (past_of t) c.args.id x)
    c.in-Relative.is (may_encode t c.args.id c.args.form legal.steps c.requires.born
    c.requires.open) in
    let parent : (node_at t.problem (past_of t) c.args.id).parent ≡ Some c.in-Some.parent =
    ap (λ (v : TreeView). (node_at v.problem (past_of v) c.args.id).parent) (sym c.self.view_is)
    ∙ (sym f.storage.parent ∙ c.in-Some.is) in
    subst (λ (o : Option ℕ). HasUnfreedParent (past_of t) o) parent may.related.1
