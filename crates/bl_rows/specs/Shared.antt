-- A problem that no point meets, and what is known of a seat at a tree of it.
use Rattle.std.specs.Prelude.{◌≡◌, ℕ, ℤ, pos, [], ◌∷◌, Option, Some, None}
use Rattle.bl_problem.specs.Program.{Program}
use Rattle.bl_problem.specs.declared.problem.Column.{Column}
use Rattle.bl_problem.specs.declared.problem.Row.{Row}
use Rattle.bl_problem.specs.declared.problem.Sense.TheVariants.{Min}
use Rattle.bl_problem.specs.declared.cut.Cut.{Cut}
use Rattle.bl_desc.specs.declared.desc.Desc.{Desc}
use Rattle.bl_desc.specs.declared.desc.Form.{Form}
use Rattle.bl_desc.specs.Changes.{changed}
use Rattle.bl_journal.specs.declared.entry.Entry.{Entry}
use Rattle.bl_journal.specs.declared.outcome.Outcome.{Outcome}
use Rattle.bl_journal.specs.declared.outcome.Next.{Next}
use Rattle.bl_journal.specs.declared.outcome.Next.TheVariants.{Shut, Split}
use Rattle.bl_journal.specs.Descriptions.{left_child, right_child}
use Rattle.bl_journal.specs.Pieces.{piece_below}
use Rattle.bl_journal.specs.Soundness.{IsSound}
use Rattle.bl_journal.specs.Legality.{step_of, added_by_step}
use Rattle.bl_turn.specs.declared.told.Told.{Ghosts}
use Rattle.bl_turn.specs.declared.seat.Seat.{Seat}
use Rattle.bl_turn.specs.Seats.{view_of}
use Rattle.bl_shared.specs.declared.locked.LockedTree.{LockedTree}
use Rattle.bl_shared.specs.declared.locked.TreeBase.{TreeBase}
use Rattle.bl_shared.specs.declared.shared.SharedTree.{SharedTree}
use Rattle.bl_pool.specs.declared.key.Order.TheVariants.{Best}
use Rattle.bl_shared.specs.Calls.{IsSeatOf}

abbrev pub column : ℕ → ℤ → Column
column name high = record { name = name ∷ []; low = pos 0; high = high; cost = pos 1 }

-- it has no terms, and is to be at least 1
abbrev pub never : Row
never = record { name = 82 ∷ []; terms = []; low = Some (pos 1); high = None }

-- two columns from 0 to `high`, and a row that no point meets
abbrev pub hopeless : ℤ → Program
hopeless high =
    record {
      columns = column 88 high ∷ column 89 high ∷ [];
      rows = never ∷ [];
      objective =
          67 ∷ [];
      scale = 0;
      offset = pos 0;
      sense = Min;
    }

-- the children of a node of this description, in this form
abbrev pub ArePieces : Desc Cut → Form → Next → Type 0
ArePieces d form Shut = Unit {0}
ArePieces d form (Split common column at left right) =
    (left ≡ piece_below d form (left_child (changed common d) column at))
    × (right ≡ piece_below d form (right_child (changed common d) column at))

-- an outcome that may be put for a node of this description, whatever the cutoff
pub record IsOutcome (d : Desc Cut) (form : Form) (o : Outcome) : Type 0 where
  pub sound : (high : ℤ) (cutoff : Option ℤ) → IsSound (hopeless high) d cutoff o.found o.low
      (step_of o.next)
  pub no_cuts : added_by_step (step_of o.next) ≡ []
  pub pieces : ArePieces d form o.next

-- the tree's problem and settings
abbrev pub base_for : ℤ → ℕ → TreeBase
base_for high nodes =
    record {
      problem = hopeless high;
      settings =
          record { nodes = nodes; span = 8; order = Best; gap = pos 0 };
    }

-- it is a seat of a tree of the problem
pub record IsAt {g : Ghosts LockedTree Entry TreeBase} (t : SharedTree) (high : ℤ) (nodes : ℕ)
    (p : Seat LockedTree Entry TreeBase g) : Type 0 where
  pub seat : IsSeatOf t p
  pub base : (view_of p).base ≡ Some (base_for high nodes)
