-- What the calls of a tree answer, and what they leave.
use Rattle.std.specs.Prelude.{◌≡◌, ◌<◌, ℕ}
use Rattle.bl_desc.specs.declared.desc.Form.{Form}
use Rattle.bl_journal.specs.declared.entry.Entry.TheVariants.{Take, Encode, Free}
use Rattle.bl_tree.specs.declared.answer.Freed.{Freed}
use Rattle.bl_tree.specs.declared.answer.Freed.TheVariants.{Chain, Nothing}
use Rattle.bl_tree.specs.declared.answer.Encoding.TheVariants.{Open, Same, Fixed, Gone}
use Rattle.bl_tree.specs.declared.plan.Planned.{Planned}
use Rattle.bl_tree.specs.declared.plan.Planned.TheVariants.{Gone as PlannedGone}
use Rattle.bl_tree.specs.declared.plan.Planned.TheVariants.{Same as PlannedSame}
use Rattle.bl_tree.specs.declared.plan.Planned.TheVariants.{Fixed as PlannedFixed}
use Rattle.bl_tree.specs.declared.plan.Planned.TheVariants.{Chain as PlannedChain}
use Rattle.bl_tree.specs.declared.plan.Installed.{Installed}
use Rattle.bl_tree.specs.declared.plan.Installed.TheVariants.{Made as InstalledMade}
use Rattle.bl_tree.specs.declared.plan.Installed.TheVariants.{Same as InstalledSame}
use Rattle.bl_tree.specs.declared.plan.Installed.TheVariants.{Gone as InstalledGone}
use Rattle.bl_tree.specs.declared.lease.Taken.{Taken}
use Rattle.bl_tree.specs.declared.lease.Taken.TheVariants.{Node, Idle, Done, Spent}
use Rattle.bl_journal.specs.Replies.{take_reply, gives, idle, done, spent}
use Rattle.bl_journal.specs.Pieces.{chain_of}
use Rattle.bl_journal.specs.Freeing.{IsFreeChain, HasNothingToFree, standing_of}
use Rattle.bl_tree.specs.Answers.{encoding_for, installed_for}
use Rattle.bl_tree.specs.Jobs.{PlanView, JobView, IsPlanOf, plan_of}
use Rattle.bl_tree.specs.Views.{TreeView, past_of, extended, LeaseView, IsLeaseOf}

-- a lease that was just taken
pub record IsTaken (old : TreeView) (seat : ℕ) (lease : LeaseView) (new : TreeView) : Type 0 where
  pub reply : take_reply old.problem old.settings (past_of old) ≡ gives lease.id
  pub entry : new ≡ extended old (Take seat lease.id)
  pub leased : IsLeaseOf new seat lease
  pub chain : lease.chain ≡ chain_of new.problem new.settings (past_of new) lease.id

abbrev pub Takes : TreeView → ℕ → Taken → TreeView → Type 0
Takes old seat (Node lease) new = IsTaken old seat lease new
Takes old seat Idle new = (take_reply old.problem old.settings (past_of old) ≡ idle) × (new ≡ old)
Takes old seat Done new = (take_reply old.problem old.settings (past_of old) ≡ done) × (new ≡ old)
Takes old seat Spent new = (take_reply old.problem old.settings (past_of old) ≡ spent) × (new ≡ old)

-- the least node that may be freed and then each parent in turn are freed, and fewer nodes
-- stand; or none may be freed
abbrev pub Frees : TreeView → ℕ → Freed → TreeView → Type 0
Frees old seat (Chain ids) new =
    IsFreeChain old.problem old.settings (past_of old) ids × (new ≡ extended old (Free seat ids))
    × (standing_of new.problem (past_of new) < standing_of old.problem (past_of old))
Frees old seat Nothing new = HasNothingToFree old.problem old.settings (past_of old) × (new ≡ old)

-- the plan of the tree to store this node in this form
pub record IsPlanFor (t : TreeView) (id : ℕ) (form : Form) (plan : PlanView) : Type 0 where
  pub is : plan ≡ plan_of t id form
  pub of_tree : IsPlanOf t plan

abbrev pub Plans : TreeView → ℕ → Form → Planned → Type 0
Plans t id form PlannedGone = encoding_for t id form ≡ Gone
Plans t id form PlannedSame = encoding_for t id form ≡ Same
Plans t id form PlannedFixed = encoding_for t id form ≡ Fixed
Plans t id form (PlannedChain plan) = (encoding_for t id form ≡ Open) × IsPlanFor t id form plan

abbrev pub installed : TreeView → ℕ → JobView → Installed → TreeView
installed t seat job InstalledMade = extended t (Encode seat job.id job.form)
installed t seat job InstalledSame = t
installed t seat job InstalledGone = t

abbrev pub Installs : TreeView → ℕ → JobView → Installed → TreeView → Type 0
Installs old seat job answer new = (answer ≡ installed_for old job.id job.form)
    × (new ≡ installed old seat job answer)
