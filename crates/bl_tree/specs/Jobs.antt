-- Plans to store a node in another form, and the jobs that are made of them outside the tree.
use Rattle.std.specs.Prelude.{◌≡◌, ◌≢◌, ◌<◌, ◌^◌, ℕ, false, List, [], ◌++◌, length, AllPairs}
use Rattle.std.specs.Prelude.{Option, Some, None}
use Rattle.bl_problem.specs.declared.cut.Cut.{Cut}
use Rattle.bl_mods.specs.Mods.{IsPartThenFresh}
use Rattle.bl_desc.specs.declared.desc.Desc.{Desc}
use Rattle.bl_desc.specs.declared.desc.Form.{Form}
use Rattle.bl_desc.specs.declared.desc.Form.TheVariants.{Explicit as ExplicitForm}
use Rattle.bl_desc.specs.declared.desc.Form.TheVariants.{Relative as RelativeForm}
use Rattle.bl_desc.specs.declared.desc.Piece.{Piece}
use Rattle.bl_desc.specs.declared.desc.Piece.TheVariants.{Explicit, Relative}
use Rattle.bl_desc.specs.Changes.{IsWhole, difference}
use Rattle.bl_rebuild.specs.declared.chain.Chain.{Chain}
use Rattle.bl_journal.specs.declared.entry.Entry.{Entry}
use Rattle.bl_journal.specs.Births.{nodes_of, node_at}
use Rattle.bl_journal.specs.Descriptions.{full_of}
use Rattle.bl_journal.specs.States.{is_spanned}
use Rattle.bl_journal.specs.Pieces.{piece_in, rebuilt, chain_of}
use Rattle.bl_tree.specs.Chains.{IsApplicable, described_by}
use Rattle.bl_tree.specs.Views.{TreeView, past_of, IsLegalTree, pieces_of}

-- a node, the form that is asked, the chain that stands for the node, and where the form is
-- relative the chain that stands for its parent
pub record PlanView : Type 0 where
  pub id : ℕ
  pub form : Form
  pub chain : List (Piece Cut)
  pub above : List (Piece Cut)

-- a node, a form, and the node's piece in that form
pub record JobView : Type 0 where
  pub id : ℕ
  pub form : Form
  pub piece : Piece Cut

-- the pieces of a chain, if there is one
abbrev pub pieces_if : Option (Chain Cut) → List (Piece Cut)
pieces_if None = []
pieces_if (Some chain) = pieces_of chain

-- a node is to be relative where its parent's chain is at hand
abbrev pub form_below : Option (Chain Cut) → Form
form_below None = ExplicitForm
form_below (Some above) = RelativeForm

-- the second description may be told as a change of the first: they are of one problem, and the
-- second one's cuts are a part of the first one's and then fresh ones
pub record MayFollow (parent child : Desc Cut) : Type 0 where
  pub parent_whole : IsWhole parent
  pub child_whole : IsWhole child
  pub columns : length parent.lows ≡ length child.lows
  pub rows : length parent.row_status ≡ length child.row_status
  pub few_columns : length parent.lows < 2 ^ 32
  pub few_rows : length parent.row_status < 2 ^ 32
  pub parent_few : length parent.cuts < 2 ^ 32
  pub child_few : length child.cuts < 2 ^ 32
  pub parent_ids : AllPairs (λ a b. a.id ≢ b.id) parent.cuts
  pub child_ids : AllPairs (λ a b. a.id ≢ b.id) child.cuts
  pub part : IsPartThenFresh (λ c. c.id) parent.cuts child.cuts

-- the chain can be applied, and what it stands for may follow a description
pub record IsChainAbove (above : Chain Cut) (child : Desc Cut) : Type 0 where
  pub applicable : IsApplicable above
  pub follows : MayFollow (described_by above) child

-- the chain stands for the description of the parent
abbrev pub StandsForParent : TreeView → List (Piece Cut) → Option ℕ → Type 0
StandsForParent t chain None = ⊥
StandsForParent t chain (Some q) = rebuilt chain ≡ Some (full_of t.problem (past_of t) q)

-- where the form is relative: the span does not divide the node's depth, and the second chain
-- stands for its parent
abbrev pub MayBeRelated : TreeView → ℕ → List (Piece Cut) → Form → Type 0
MayBeRelated t id above ExplicitForm = Unit {0}
MayBeRelated t id above RelativeForm = (is_spanned t.problem t.settings (past_of t) id ≡ false)
    × StandsForParent t above (node_at t.problem (past_of t) id).parent

-- the pieces that stand for the parent, where the form is relative
abbrev pub pieces_above : TreeView → Option ℕ → Form → List (Piece Cut)
pieces_above t parent ExplicitForm = []
pieces_above t None RelativeForm = []
pieces_above t (Some q) RelativeForm = chain_of t.problem t.settings (past_of t) q

-- the plan of the tree's own pieces
abbrev pub plan_of : TreeView → ℕ → Form → PlanView
plan_of t id form =
    record {
      id = id;
      form = form;
      chain = chain_of t.problem t.settings (past_of t) id;
      above = pieces_above t (node_at t.problem (past_of t) id).parent form;
    }

-- a plan of this tree
pub record IsPlanOf (t : TreeView) (plan : PlanView) : Type 0 where
  pub born : plan.id < length (nodes_of t.problem (past_of t))
  pub chain : rebuilt plan.chain ≡ Some (full_of t.problem (past_of t) plan.id)
  pub related : MayBeRelated t plan.id plan.above plan.form

-- where the form is relative, the span does not divide the node's depth
abbrev pub MayHaveForm : TreeView → ℕ → Form → Type 0
MayHaveForm t id ExplicitForm = Unit {0}
MayHaveForm t id RelativeForm = is_spanned t.problem t.settings (past_of t) id ≡ false

-- a job for this tree: its piece is the node's full description, or the canonical difference
-- from its parent's
pub record IsJobOf (t : TreeView) (job : JobView) : Type 0 where
  pub born : job.id < length (nodes_of t.problem (past_of t))
  pub piece : job.piece ≡ piece_in t.problem (past_of t) job.id job.form
  pub spanned : MayHaveForm t job.id job.form

-- a description in a form; the relative form is the canonical difference from the description above
abbrev pub piece_from : Form → Option (Desc Cut) → Option (Desc Cut) → Option (Piece Cut)
piece_from form None above = None
piece_from ExplicitForm (Some d) above = Some (Explicit d)
piece_from RelativeForm (Some d) None = None
piece_from RelativeForm (Some d) (Some above) = Some (Relative (difference (λ c. c.id) above d))

-- the job that is made of a plan
pub record IsMadeOf (plan : PlanView) (job : JobView) : Type 0 where
  pub id : job.id ≡ plan.id
  pub form : job.form ≡ plan.form
  pub piece : Some job.piece ≡ piece_from plan.form (rebuilt plan.chain) (rebuilt plan.above)

-- the tree after some more entries
abbrev pub later : TreeView → List Entry → TreeView
later t entries = record {
  problem = t.problem;
  settings = t.settings;
  history =
      t.history ++ entries;
}

-- a plan of a tree stays one, whatever is entered later
abbrev pub PlansStay : Type 0
PlansStay = (t : TreeView) (entries : List Entry) (plan : PlanView) → IsLegalTree t
    → IsPlanOf t plan → IsPlanOf (later t entries) plan

-- a job for a tree stays one, whatever is entered later
abbrev pub JobsStay : Type 0
JobsStay = (t : TreeView) (entries : List Entry) (job : JobView) → IsLegalTree t → IsJobOf t job
    → IsJobOf (later t entries) job

-- what is made of a plan of a tree is a job for that tree
abbrev pub PlansMakeJobs : Type 0
PlansMakeJobs = (t : TreeView) (plan : PlanView) (job : JobView) → IsPlanOf t plan
    → IsMadeOf plan job → IsJobOf t job
