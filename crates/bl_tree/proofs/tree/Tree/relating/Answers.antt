use Rattle.std.proofs.Common.{◌≡◌, ◌%◌, ℕ, Option, true, false, cond, ap, sym, ◌∙◌, subst}
use Rattle.std.specs.Prelude.{reverse, IfSome, ◌==◌}
use Rattle.std.proofs.lemmas.Bool.{cond-true, cond-false, eq-eqb, ne_eqb}
use Rattle.bl_journal.specs.Births.{node_at}
use Rattle.bl_journal.specs.States.{is_spanned}
use Rattle.bl_tree.specs.Views.{TreeView, past_of}
use Rattle.bl_tree.specs.Answers.{IsBorn, is_freed_if, related_for}
use Rattle.bl_tree.specs.declared.answer.Encoding.TheVariants.{Open, Fixed, Gone}
use Rattle.bl_tree.proofs.Chained.{known, parent_born}
use Rattle.bl_tree.proofs.tree.Tree.relating.Goals as goal

pub is_gone-requires : goal.is_gone-requires
is_gone-requires c =
    let k = c.self.invariant.follows in
    let f = known c.self.inside.problem c.self.inside.settings c.self.inside.journal.entries
    c.args.self.now c.self.inside.kept.records.items c.args.id c.index-record.result.now
    c.self.view_is c.requires k.records k.storage c.index-record.ensures in
    subst (λ (t : TreeView). IfSome c.index-record.result.now.parent (IsBorn t)) c.self.view_is
    (subst (λ (o : Option ℕ). IfSome o
    (IsBorn (record {
      problem = c.self.inside.problem;
      settings =
          c.self.inside.settings;
      history = c.self.inside.journal.entries;
    }))) (sym f.storage.parent)
    (parent_born c.self.inside.problem c.self.inside.settings
    (reverse c.self.inside.journal.entries) c.args.id k.legal f.born))

pub returns-then-record-self-eq0 : goal.returns-then-record-self-eq0
returns-then-record-self-eq0 c =
    let k = c.self.invariant.follows in
    let f = known c.self.inside.problem c.self.inside.settings c.self.inside.journal.entries
    c.args.self.now c.self.inside.kept.records.items c.args.id c.index-record.result.now
    c.self.view_is c.requires k.records k.storage c.index-record.ensures in
    let u : TreeView = record {
      problem = c.self.inside.problem;
      settings =
          c.self.inside.settings;
      history = c.self.inside.journal.entries;
    } in
    let t : is_spanned u.problem u.settings (past_of u) c.args.id ≡ true =
    ap (λ (d : ℕ). d % c.self.inside.settings.span == 0) (sym f.node.depth)
    ∙ eq-eqb _ 0 c.if-record-self-eq0.true in
    subst (λ (t : TreeView). Fixed ≡ related_for t c.args.id) c.self.view_is
    (sym (cond-true (is_spanned u.problem u.settings (past_of u) c.args.id) Fixed
    (cond (is_freed_if u (node_at u.problem (past_of u) c.args.id).parent) Gone Open) t))

pub returns-then-is_gone : goal.returns-then-is_gone
returns-then-is_gone c =
    let k = c.self.invariant.follows in
    let f = known c.self.inside.problem c.self.inside.settings c.self.inside.journal.entries
    c.args.self.now c.self.inside.kept.records.items c.args.id c.index-record.result.now
    c.self.view_is c.requires k.records k.storage c.index-record.ensures in
    let u : TreeView = record {
      problem = c.self.inside.problem;
      settings =
          c.self.inside.settings;
      history = c.self.inside.journal.entries;
    } in
    let t : is_spanned u.problem u.settings (past_of u) c.args.id ≡ false =
    ap (λ (d : ℕ). d % c.self.inside.settings.span == 0) (sym f.node.depth)
    ∙ ne_eqb _ 0 c.if-record-self-eq0.false in
    let g : is_freed_if u (node_at u.problem (past_of u) c.args.id).parent ≡ true =
    ap (is_freed_if u) (sym f.storage.parent)
    ∙ (ap (λ (t : TreeView). is_freed_if t c.index-record.result.now.parent) c.self.view_is
    ∙ (sym c.is_gone.ensures ∙ c.if-is_gone.true)) in
    subst (λ (t : TreeView). Gone ≡ related_for t c.args.id) c.self.view_is
    (sym (cond-false (is_spanned u.problem u.settings (past_of u) c.args.id) Fixed
    (cond (is_freed_if u (node_at u.problem (past_of u) c.args.id).parent) Gone Open) t
    ∙ cond-true (is_freed_if u (node_at u.problem (past_of u) c.args.id).parent) Gone Open g))

pub returns-else-is_gone : goal.returns-else-is_gone
returns-else-is_gone c =
    let k = c.self.invariant.follows in
    let f = known c.self.inside.problem c.self.inside.settings c.self.inside.journal.entries
    c.args.self.now c.self.inside.kept.records.items c.args.id c.index-record.result.now
    c.self.view_is c.requires k.records k.storage c.index-record.ensures in
    let u : TreeView = record {
      problem = c.self.inside.problem;
      settings =
          c.self.inside.settings;
      history = c.self.inside.journal.entries;
    } in
    let t : is_spanned u.problem u.settings (past_of u) c.args.id ≡ false =
    ap (λ (d : ℕ). d % c.self.inside.settings.span == 0) (sym f.node.depth)
    ∙ ne_eqb _ 0 c.if-record-self-eq0.false in
    let g : is_freed_if u (node_at u.problem (past_of u) c.args.id).parent ≡ false =
    ap (is_freed_if u) (sym f.storage.parent)
    ∙ (ap (λ (t : TreeView). is_freed_if t c.index-record.result.now.parent) c.self.view_is
    ∙ (sym c.is_gone.ensures ∙ c.if-is_gone.false)) in
    subst (λ (t : TreeView). Open ≡ related_for t c.args.id) c.self.view_is
    (sym (cond-false (is_spanned u.problem u.settings (past_of u) c.args.id) Fixed
    (cond (is_freed_if u (node_at u.problem (past_of u) c.args.id).parent) Gone Open) t
    ∙ cond-false (is_freed_if u (node_at u.problem (past_of u) c.args.id).parent) Gone Open g))
