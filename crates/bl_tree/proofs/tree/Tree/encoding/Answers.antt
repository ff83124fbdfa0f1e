use Rattle.std.proofs.Common.{◌≡◌, ap, sym, ◌∙◌, subst}
use Rattle.bl_desc.specs.declared.desc.Form.TheVariants.{Explicit, Relative}
use Rattle.bl_tree.specs.Views.{TreeView, past_of}
use Rattle.bl_tree.specs.Answers.{encoding_for, encoding_from, related_for}
use Rattle.bl_tree.specs.declared.answer.Encoding.TheVariants.{Open, Same, Gone}
use Rattle.bl_tree.proofs.Chained.{known, freed_known, stands_known, is_not_freed, explicit_facts}
use Rattle.bl_tree.proofs.Chained.{relative_facts, encoding_gone, encoding_stands}
use Rattle.bl_tree.proofs.tree.Tree.encoding.Goals as goal

pub returns-in_default : goal.returns-in_default
returns-in_default c =
    let k = c.self.invariant.follows in
    let f = known c.self.inside.problem c.self.inside.settings c.self.inside.journal.entries
    c.args.self.now c.self.inside.kept.records.items c.args.id c.index-record.result.now
    c.self.view_is c.requires k.records k.storage c.index-record.ensures in
    subst (λ (t : TreeView). Gone ≡ encoding_for t c.args.id c.args.form) c.self.view_is
    (encoding_gone (record {
      problem = c.self.inside.problem;
      settings =
          c.self.inside.settings;
      history = c.self.inside.journal.entries;
    }) c.args.id c.args.form
    (freed_known _ _ _ _ _ f.storage c.in_default.is))

pub returns-in-Explicit-form : goal.returns-in-Explicit-form
returns-in-Explicit-form c =
    let k = c.self.invariant.follows in
    let f = known c.self.inside.problem c.self.inside.settings c.self.inside.journal.entries
    c.args.self.now c.self.inside.kept.records.items c.args.id c.index-record.result.now
    c.self.view_is c.requires k.records k.storage c.index-record.ensures in
    let u : TreeView = record {
      problem = c.self.inside.problem;
      settings =
          c.self.inside.settings;
      history = c.self.inside.journal.entries;
    } in
    let g = stands_known u.problem u.settings (past_of u) c.args.id c.index-record.result.now
    c.in-Some.piece f.storage c.in-Some.is in
    let h = explicit_facts u.problem u.settings (past_of u) c.args.id c.in-Explicit.field-0
    k.legal f.born (is_not_freed _ g.0) (g.1 ∙ c.in-Explicit.is) in
    subst (λ (t : TreeView). Same ≡ encoding_for t c.args.id c.args.form) c.self.view_is
    (encoding_stands u c.args.id Explicit c.args.form Same g.0 h.form
    (ap (encoding_from u c.args.id Explicit) (sym c.in-Explicit-form.is)))

pub returns-in-Relative-form : goal.returns-in-Relative-form
returns-in-Relative-form c =
    let k = c.self.invariant.follows in
    let f = known c.self.inside.problem c.self.inside.settings c.self.inside.journal.entries
    c.args.self.now c.self.inside.kept.records.items c.args.id c.index-record.result.now
    c.self.view_is c.requires k.records k.storage c.index-record.ensures in
    let u : TreeView = record {
      problem = c.self.inside.problem;
      settings =
          c.self.inside.settings;
      history = c.self.inside.journal.entries;
    } in
    let g = stands_known u.problem u.settings (past_of u) c.args.id c.index-record.result.now
    c.in-Some.piece f.storage c.in-Some.is in
    let h = explicit_facts u.problem u.settings (past_of u) c.args.id c.in-Explicit.field-0
    k.legal f.born (is_not_freed _ g.0) (g.1 ∙ c.in-Explicit.is) in
    subst (λ (t : TreeView). c.relating.result ≡ encoding_for t c.args.id c.args.form)
    c.self.view_is
    (encoding_stands u c.args.id Explicit c.args.form c.relating.result g.0 h.form
    (c.relating.ensures ∙ (ap (λ (t : TreeView). related_for t c.args.id) (sym c.self.view_is)
    ∙ ap (encoding_from u c.args.id Explicit) (sym c.in-Relative-form.is))))

pub returns-in-Explicit-form-2 : goal.returns-in-Explicit-form-2
returns-in-Explicit-form-2 c =
    let k = c.self.invariant.follows in
    let f = known c.self.inside.problem c.self.inside.settings c.self.inside.journal.entries
    c.args.self.now c.self.inside.kept.records.items c.args.id c.index-record.result.now
    c.self.view_is c.requires k.records k.storage c.index-record.ensures in
    let u : TreeView = record {
      problem = c.self.inside.problem;
      settings =
          c.self.inside.settings;
      history = c.self.inside.journal.entries;
    } in
    let g = stands_known u.problem u.settings (past_of u) c.args.id c.index-record.result.now
    c.in-Some.piece f.storage c.in-Some.is in
    let h = relative_facts u.problem u.settings (past_of u) c.args.id c.in-Relative.field-0
    k.legal f.born (is_not_freed _ g.0) (g.1 ∙ c.in-Relative.is) in
    subst (λ (t : TreeView). Open ≡ encoding_for t c.args.id c.args.form) c.self.view_is
    (encoding_stands u c.args.id Relative c.args.form Open g.0 h.form
    (ap (encoding_from u c.args.id Relative) (sym c.in-Explicit-form-2.is)))

pub returns-in-Relative-form-2 : goal.returns-in-Relative-form-2
returns-in-Relative-form-2 c =
    let k = c.self.invariant.follows in
    let f = known c.self.inside.problem c.self.inside.settings c.self.inside.journal.entries
    c.args.self.now c.self.inside.kept.records.items c.args.id c.index-record.result.now
    c.self.view_is c.requires k.records k.storage c.index-record.ensures in
    let u : TreeView = record {
      problem = c.self.inside.problem;
      settings =
          c.self.inside.settings;
      history = c.self.inside.journal.entries;
    } in
    let g = stands_known u.problem u.settings (past_of u) c.args.id c.index-record.result.now
    c.in-Some.piece f.storage c.in-Some.is in
    let h = relative_facts u.problem u.settings (past_of u) c.args.id c.in-Relative.field-0
    k.legal f.born (is_not_freed _ g.0) (g.1 ∙ c.in-Relative.is) in
    subst (λ (t : TreeView). Same ≡ encoding_for t c.args.id c.args.form) c.self.view_is
    (encoding_stands u c.args.id Relative c.args.form Same g.0 h.form
    (ap (encoding_from u c.args.id Relative) (sym c.in-Relative-form-2.is)))
