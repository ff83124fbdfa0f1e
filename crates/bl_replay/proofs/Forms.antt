-- A node that may be encoded is open for the form, and stored so.
use Rattle.std.proofs.Common.{◌≡◌, ◌≢◌, ℕ, refl, ap, ◌∙◌, Option, Some, None, false, cond}
use Rattle.std.proofs.lemmas.Bool.{cond-false}
use Rattle.bl_desc.specs.declared.desc.Form.{Form}
use Rattle.bl_desc.specs.declared.desc.Form.TheVariants.{Explicit, Relative}
use Rattle.bl_journal.specs.Births.{node_at}
use Rattle.bl_journal.specs.States.{state_of, form_of, is_spanned}
use Rattle.bl_journal.specs.declared.state.State.{State}
use Rattle.bl_journal.specs.declared.state.State.TheVariants.{Waiting as waiting, Out as out}
use Rattle.bl_journal.specs.declared.state.State.TheVariants.{Split as split, Shut as shut}
use Rattle.bl_journal.specs.declared.state.State.TheVariants.{Freed as freed}
use Rattle.bl_journal.specs.Pieces.{is_freed}
use Rattle.bl_journal.specs.Legality.{MayEncode, MayRelate, HasUnfreedParent}
use Rattle.bl_tree.specs.declared.answer.Encoding.TheVariants.{Open, Fixed, Gone}
use Rattle.bl_journal.specs.declared.entry.Entry.TheVariants.{Encode}
use Rattle.bl_tree.specs.Calls.{IsPlanFor, Installs, installed}
use Rattle.bl_tree.specs.Jobs.{PlanView, JobView, IsMadeOf}
use Rattle.bl_tree.specs.declared.plan.Installed.{Installed}
use Rattle.bl_tree.specs.declared.plan.Installed.TheVariants.{Made, Gone as InstalledGone}
use Rattle.bl_tree.specs.Answers.{encoding_for, encoding_from, installed_for, installed_from}
use Rattle.bl_tree.specs.Answers.{is_freed_if}
use Rattle.bl_tree.specs.Views.{TreeView, past_of, extended}

stands : (t : State) → t ≢ freed → is_freed t ≡ false
stands waiting h = refl
stands (out seat) h = refl
stands split h = refl
stands shut h = refl
stands freed h = absurd (h refl)

parent_stands : (t : TreeView) (o : Option ℕ) → HasUnfreedParent (past_of t) o → is_freed_if t o
    ≡ false
parent_stands t None h = absurd h
parent_stands t (Some q) h = stands (state_of (past_of t) q) h

open_from : (t : TreeView) (id : ℕ) (old form : Form) → old ≢ form
    → MayRelate t.problem t.settings (past_of t) id form → encoding_from t id old form ≡ Open
open_from t id Explicit Explicit other r = absurd (other refl)
open_from t id Relative Relative other r = absurd (other refl)
open_from t id Relative Explicit other r = refl
open_from t id Explicit Relative other r =
    let parent = (node_at t.problem (past_of t) id).parent in
    cond-false (is_spanned t.problem t.settings (past_of t) id) Fixed
    (cond (is_freed_if t parent) Gone Open) r.0
    ∙ cond-false (is_freed_if t parent) Gone Open (parent_stands t parent r.1)

made_from : (t : TreeView) (id : ℕ) (old form : Form) → old ≢ form
    → MayRelate t.problem t.settings (past_of t) id form → installed_from t id old form ≡ Made
made_from t id Explicit Explicit other r = absurd (other refl)
made_from t id Relative Relative other r = absurd (other refl)
made_from t id Relative Explicit other r = refl
made_from t id Explicit Relative other r =
    let parent = (node_at t.problem (past_of t) id).parent in
    cond-false (is_freed_if t parent) InstalledGone Made (parent_stands t parent r.1)

-- a node that may be encoded is open for the form
pub encodes_open : (t : TreeView) (id : ℕ) (form : Form)
    → MayEncode t.problem t.settings (past_of t) id form → encoding_for t id form ≡ Open
encodes_open t id form may =
    let old : Form = form_of t.problem t.settings (past_of t) id in
    cond-false (is_freed (state_of (past_of t) id)) Gone (encoding_from t id old form)
    (stands (state_of (past_of t) id) may.not_freed)
    ∙ open_from t id old form may.other may.related

-- and it is stored in the form
pub encodes_made : (t : TreeView) (id : ℕ) (form : Form)
    → MayEncode t.problem t.settings (past_of t) id form → installed_for t id form ≡ Made
encodes_made t id form may =
    let old : Form = form_of t.problem t.settings (past_of t) id in
    cond-false (is_freed (state_of (past_of t) id)) InstalledGone (installed_from t id old form)
    (stands (state_of (past_of t) id) may.not_freed)
    ∙ made_from t id old form may.other may.related

-- what is made of the plan of a node that may be encoded is stored, and the tree has the entry
pub encoded_again : (t new : TreeView) (seat id : ℕ) (form : Form) (plan : PlanView)
    (job : JobView) (answer : Installed) → MayEncode t.problem t.settings (past_of t) id form
    → IsPlanFor t id form plan → IsMadeOf plan job
    → Installs t seat job answer new → new ≡ extended t (Encode seat id form)
encoded_again t new seat id form plan job answer may planned made i =
    let own : job.id ≡ id = made.id ∙ ap (λ (v : PlanView). v.id) planned.is in
    let shape : job.form ≡ form = made.form ∙ ap (λ (v : PlanView). v.form) planned.is in
    let is : answer ≡ Made = i.0 ∙ (ap (λ (k : ℕ). installed_for t k job.form) own
    ∙ (ap (installed_for t id) shape ∙ encodes_made t id form may)) in
    i.1 ∙ (ap (installed t seat job) is ∙ (ap (λ (k : ℕ). extended t (Encode seat k job.form)) own
    ∙ ap (λ (f : Form). extended t (Encode seat id f)) shape))
