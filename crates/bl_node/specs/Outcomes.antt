-- The outcomes of the work on a node.
use Rattle.std.specs.Prelude.{◌≡◌, ◌⊎◌, ◌+◌, ◌≤◌, ℤ, ◌<ℤ◌, length, Option, IfSome, if◌then◌else◌}
use Rattle.bl_problem.specs.Program.{Program}
use Rattle.bl_problem.specs.Points.{value_of}
use Rattle.bl_problem.specs.declared.cut.Cut.{Cut}
use Rattle.bl_desc.specs.declared.desc.Desc.{Desc}
use Rattle.bl_desc.specs.declared.desc.Form.{Form}
use Rattle.bl_desc.specs.declared.change.Change.{Change}
use Rattle.bl_desc.specs.Changes.{difference}
use Rattle.bl_journal.specs.Soundness.{IsSound}
pub use Rattle.bl_journal.specs.Legality.{step_of}
use Rattle.bl_journal.specs.declared.outcome.Outcome.{Outcome}
use Rattle.bl_journal.specs.declared.outcome.Next.TheVariants.{Shut as ShutNext, Split as SplitNext}
use Rattle.bl_journal.specs.Descriptions.{left_child, right_child}
use Rattle.bl_journal.specs.Pieces.{piece_below}
use Rattle.bl_branch.specs.declared.place.Place.{Place}
use Rattle.bl_journal.specs.declared.limits.TheConstants.{MOST_STATUSES}
use Rattle.bl_node.specs.declared.working.Working.{Working}
use Rattle.bl_node.specs.declared.limits.Limits.{Limits}
use Rattle.bl_desc.specs.declared.desc.Form.TheVariants.{Explicit, Relative}

-- the change from the node's description to the one so far
abbrev pub common_of : Desc Cut → Desc Cut → Change Cut
common_of f d = difference (λ c. c.id) f d

-- the change sets few statuses
abbrev pub HasFewStatuses : Desc Cut → Desc Cut → Type 0
HasFewStatuses f d = length (common_of f d).columns + length (common_of f d).rows
    + length (common_of f d).fresh ≤ MOST_STATUSES

-- the box so far is split at the place, after the common change, and the children have this form
pub record IsSplitOf (f : Desc Cut) (w : Working) (form : Form) (place : Place) (o : Outcome) :
    Type 0 where
  pub found : o.found ≡ w.found
  pub low : o.low ≡ w.low
  pub next : o.next ≡ SplitNext (common_of f w.desc) place.column place.at
      (piece_below f form (left_child w.desc place.column place.at))
      (piece_below f form (right_child w.desc place.column place.at))

-- the node is shut, or split after the common change at a place that is allowed there
abbrev pub IsSplitAt : (Place → Type 0) → Desc Cut → Working → Form → Outcome → Type 0
IsSplitAt P f w form o = (o.next ≡ ShutNext)
    ⊎ ((place : Place) × (P place × IsSplitOf f w form place o))

-- the outcome is sound, and a found point is below the cutoff
pub record IsGood (p : Program) (f : Desc Cut) (cutoff : Option ℤ) (o : Outcome) : Type 0 where
  pub sound : IsSound p f cutoff o.found o.low (step_of o.next)
  pub better : IfSome o.found (λ x. IfSome cutoff (λ c. value_of p x <ℤ c))

-- the form in which the children are stored
abbrev pub form_of : Limits → Form
form_of limits = if limits.explicit then Explicit else Relative
