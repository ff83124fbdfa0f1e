-- When a node may be stored in another form.
use Rattle.std.proofs.Common.{◌≡◌, ℕ, zero, suc, ◌<◌, ◌%◌, List, [], ◌∷◌, length, refl, ap, sym}
use Rattle.std.proofs.Common.{◌∙◌, arith, Bool, true, false, cond, Some, None, Option}
use Rattle.std.specs.Prelude.{◌==◌}
use Rattle.std.proofs.lemmas.Bool.{cond-true, cond-false, eq-eqb, true≢false}
use Rattle.std.proofs.Math.Nat.{zero-mod}
use Rattle.bl_problem.specs.Program.{Program}
use Rattle.bl_desc.specs.declared.desc.Form.{Form}
use Rattle.bl_desc.specs.declared.desc.Form.TheVariants.{Explicit, Relative}
use Rattle.bl_journal.specs.declared.entry.Entry.{Entry}
use Rattle.bl_journal.specs.declared.entry.Entry.TheVariants.{Take, Put, Back, Encode, Free}
use Rattle.bl_journal.specs.declared.entry.Step.TheVariants.{Shut, Split}
use Rattle.bl_journal.specs.declared.settings.Settings.{Settings}
use Rattle.bl_journal.specs.Births.{Node, nodes_of, node_at, root_node}
use Rattle.bl_journal.specs.States.{state_of, form_of, encoded_form, is_spanned}
use Rattle.bl_journal.specs.Pieces.{is_freed}
use Rattle.bl_journal.specs.Legality.{IsLegalPast, MayEncode, MayRelate, HasUnfreedParent}
use Rattle.bl_journal.proofs.Induction.{each_node}
use Rattle.bl_tree.specs.declared.answer.Encoding.{Encoding}
use Rattle.bl_tree.specs.declared.answer.Encoding.TheVariants.{Open, Same, Fixed, Gone}
use Rattle.bl_tree.specs.declared.plan.Installed.TheVariants.{Made as InstalledMade}
use Rattle.bl_tree.specs.declared.plan.Installed.TheVariants.{Gone as InstalledGone}
use Rattle.bl_tree.specs.Views.{TreeView, past_of}
use Rattle.bl_tree.specs.Answers.{IsBorn, is_freed_if, encoding_from, encoding_for, installed_as}
use Rattle.bl_tree.specs.Answers.{installed_from, installed_for}
use Rattle.bl_tree.specs.Calls.{installed}
use Rattle.bl_tree.specs.Jobs.{JobView, MayHaveForm}
use Rattle.bl_tree.proofs.Chained.{is_not_freed}

-- a node without a parent is the root
rootless : (p : Program) (s : Settings) (past : List Entry) → IsLegalPast p s past → (id : ℕ) → id
    < length (nodes_of p past) → (node_at p past id).parent ≡ None → (node_at p past id).depth ≡ 0
rootless p s past l id born =
    each_node p s (λ h k n. n.parent ≡ None → n.depth ≡ 0) (record {
      root = λ e. refl;
      kept = λ h e legal a k b shallow. shallow;
      handed = λ h put b shallow d k under e. let f : Some put.id ≡ None = e in cc;
    }) past l id born

-- a node that the span does not divide has a parent
unfreed_parent : (t : TreeView) (id : ℕ) → IsLegalPast t.problem t.settings (past_of t)
    → IsBorn t id → is_spanned t.problem t.settings (past_of t) id ≡ false
    → is_freed_if t (node_at t.problem (past_of t) id).parent ≡ false
    → HasUnfreedParent (past_of t) (node_at t.problem (past_of t) id).parent
unfreed_parent t id legal born spanned stands =
    by_parent (node_at t.problem (past_of t) id).parent refl stands
  where
    by_parent : (o : Option ℕ) → (node_at t.problem (past_of t) id).parent ≡ o → is_freed_if t o
        ≡ false → HasUnfreedParent (past_of t) o
    by_parent None e h =
        let zero_deep : (node_at t.problem (past_of t) id).depth ≡ 0 =
        rootless t.problem t.settings (past_of t) legal id born e in
        let divided : is_spanned t.problem t.settings (past_of t) id ≡ true =
        ap (λ (d : ℕ). d % t.settings.span == 0) zero_deep
        ∙ eq-eqb (0 % t.settings.span) 0 (zero-mod t.settings.span) in
        absurd (true≢false (sym divided ∙ spanned))
    by_parent (Some q) e h = is_not_freed (state_of (past_of t) q) h

-- where the answer is Open the node may be encoded
pub may_encode : (t : TreeView) (id : ℕ) (form : Form)
    → IsLegalPast t.problem t.settings (past_of t) → IsBorn t id → encoding_for t id form ≡ Open
    → MayEncode t.problem t.settings (past_of t) id form
may_encode t id form legal born made = by_state (is_freed (state_of (past_of t) id)) refl made
  where
    related : is_spanned t.problem t.settings (past_of t) id ≡ false
        → is_freed_if t (node_at t.problem (past_of t) id).parent ≡ false
        → MayRelate t.problem t.settings (past_of t) id Relative
    related spanned stands = (spanned, unfreed_parent t id legal born spanned stands)

    by_related : (a b : Bool) → is_spanned t.problem t.settings (past_of t) id ≡ a
        → is_freed_if t (node_at t.problem (past_of t) id).parent ≡ b
        → cond a Fixed (cond b Gone Open) ≡ Open → MayRelate t.problem t.settings (past_of t) id
        Relative
    by_related true b e f h = cc
    by_related false true e f h = cc
    by_related false false e f h = related e f

    by_form : (old new : Form) → form_of t.problem t.settings (past_of t) id ≡ old → form ≡ new
        → is_freed (state_of (past_of t) id) ≡ false → encoding_from t id old new ≡ Open
        → MayEncode t.problem t.settings (past_of t) id new
    by_form Explicit Explicit o n stands h = cc
    by_form Relative Relative o n stands h = cc
    by_form Relative Explicit o n stands h =
        record {
          born = born;
          not_freed = is_not_freed (state_of (past_of t) id) stands;
          other =
              λ e. (let g : Relative ≡ Explicit = sym o ∙ e in cc);
          related = tt;
        }
    by_form Explicit Relative o n stands h =
        record {
          born = born;
          not_freed = is_not_freed (state_of (past_of t) id) stands;
          other = λ e. (let g : Explicit ≡ Relative = sym o ∙ e in cc);
          related = by_related (is_spanned t.problem t.settings (past_of t) id)
              (is_freed_if t (node_at t.problem (past_of t) id).parent) refl refl h;
        }

    by_state : (b : Bool) → is_freed (state_of (past_of t) id) ≡ b
        → cond b Gone (encoding_from t id (form_of t.problem t.settings (past_of t) id) form)
        ≡ Open → MayEncode t.problem t.settings (past_of t) id form
    by_state true e h = cc
    by_state false e h = by_form (form_of t.problem t.settings (past_of t) id) form refl refl e h

-- the node has the form after it is encoded
pub encoded_is : (p : Program) (s : Settings) (past : List Entry) (seat id : ℕ) (form : Form)
    → MayEncode p s past id form → form_of p s (Encode seat id form ∷ past) id ≡ form
encoded_is p s past seat id form may = by_form form may.related
  where
    now : (f : Form) → encoded_form (Encode seat id f ∷ past) id ≡ f
    now f = cond-true (id == id) f (encoded_form past id) (eq-eqb id id refl)

    by_span : (b : Bool) (f : Form) → f ≡ Explicit → cond b Explicit f ≡ Explicit
    by_span true f e = refl
    by_span false f e = e

    by_form : (f : Form) → MayRelate p s past id f → form_of p s (Encode seat id f ∷ past) id ≡ f
    by_form Explicit r = by_span (is_spanned p s past id)
        (encoded_form (Encode seat id Explicit ∷ past) id) (now Explicit)
    by_form Relative r = cond-false (is_spanned p s past id) Explicit
        (encoded_form (Encode seat id Relative ∷ past) id) r.0 ∙ now Relative

-- an install answers by how the node stands to the form
pub installed_is : (t : TreeView) (id : ℕ) (form : Form) → MayHaveForm t id form
    → installed_as (encoding_for t id form) ≡ installed_for t id form
installed_is t id form h = by_state (is_freed (state_of (past_of t) id))
  where
    by_related : (a b : Bool) → a ≡ false → installed_as (cond a Fixed (cond b Gone Open))
        ≡ cond b InstalledGone InstalledMade
    by_related true b e = cc
    by_related false true e = refl
    by_related false false e = refl

    by_form : (old new : Form) → MayHaveForm t id new → installed_as (encoding_from t id old new)
        ≡ installed_from t id old new
    by_form Explicit Explicit m = refl
    by_form Relative Relative m = refl
    by_form Relative Explicit m = refl
    by_form Explicit Relative m = by_related (is_spanned t.problem t.settings (past_of t) id)
        (is_freed_if t (node_at t.problem (past_of t) id).parent) m

    by_state : (b : Bool)
        → installed_as
        (cond b Gone (encoding_from t id (form_of t.problem t.settings (past_of t) id) form))
        ≡ cond b InstalledGone (installed_from t id (form_of t.problem t.settings (past_of t) id)
        form)
    by_state true = refl
    by_state false = by_form (form_of t.problem t.settings (past_of t) id) form h

-- where the node may not be stored so, nothing happens
pub installed_nothing : (t : TreeView) (seat : ℕ) (job : JobView) (e : Encoding) → (e ≡ Open → ⊥)
    → t ≡ installed t seat job (installed_as e)
installed_nothing t seat job Open h = absurd (h refl)
installed_nothing t seat job Same h = refl
installed_nothing t seat job Fixed h = refl
installed_nothing t seat job Gone h = refl
