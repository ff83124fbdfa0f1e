-- What contracts see of a tree and of a lease, and what its calls do.
use Rattle.std.specs.Prelude.{◌≡◌, ℕ, ◌-◌, ℤ, List, [], ◌∷◌, ◌++◌, length, map, reverse, Option}
use Rattle.std.specs.Prelude.{Some}
use Rattle.bl_problem.specs.Program.{Program}
use Rattle.bl_problem.specs.declared.cut.Cut.{Cut}
use Rattle.bl_desc.specs.declared.desc.Piece.{Piece}
use Rattle.bl_desc.specs.declared.desc.Piece.TheVariants.{Explicit, Relative}
use Rattle.bl_rebuild.specs.declared.chain.Chain.{Chain}
use Rattle.bl_journal.specs.declared.entry.Entry.{Entry}
use Rattle.bl_journal.specs.declared.entry.Entry.TheVariants.{Put}
use Rattle.bl_journal.specs.declared.outcome.Next.{Next}
use Rattle.bl_journal.specs.declared.outcome.Next.TheVariants.{Shut as ShutNext, Split as SplitNext}
use Rattle.bl_journal.specs.declared.outcome.Outcome.{Outcome}
use Rattle.bl_journal.specs.declared.settings.Settings.{Settings}
use Rattle.bl_journal.specs.Births.{nodes_of, node_at}
use Rattle.bl_journal.specs.Descriptions.{full_of}
use Rattle.bl_journal.specs.States.{state_of, cutoff_of}
use Rattle.bl_journal.specs.declared.state.State.TheVariants.{Out as out}
use Rattle.bl_journal.specs.Pieces.{stored_of, rebuilt}
use Rattle.bl_journal.specs.Legality.{IsLegal, MayPut}
pub use Rattle.bl_journal.specs.Legality.{step_of}

-- a tree is its problem, its settings and its history
pub record TreeView : Type 0 where
  pub problem : Program
  pub settings : Settings
  pub history : List Entry

abbrev pub past_of : TreeView → List Entry
past_of t = reverse t.history

abbrev pub IsLegalTree : TreeView → Type 0
IsLegalTree t = IsLegal t.problem t.settings t.history

-- the tree after one more entry
abbrev pub extended : TreeView → Entry → TreeView
extended t e = record { problem = t.problem; settings = t.settings; history = t.history ++ e ∷ [] }

-- the pieces of a chain: the explicit one, and then the changes
abbrev pub pieces_of : Chain Cut → List (Piece Cut)
pieces_of chain = Explicit chain.top ∷ map Relative chain.changes

pub record LeaseView : Type 0 where
  pub id : ℕ
  pub depth : ℕ
  pub low : ℤ
  pub cutoff : Option ℤ
  pub chain : List (Piece Cut)

-- a lease of this tree and this seat
pub record IsLeaseOf (t : TreeView) (seat : ℕ) (lease : LeaseView) : Type 0 where
  pub is_out : state_of (past_of t) lease.id ≡ out seat
  pub depth : lease.depth ≡ (node_at t.problem (past_of t) lease.id).depth
  pub low : lease.low ≡ (node_at t.problem (past_of t) lease.id).low
  pub cutoff : lease.cutoff ≡ cutoff_of t.problem t.settings (past_of t) lease.id
  pub chain : rebuilt lease.chain ≡ Some (full_of t.problem (past_of t) lease.id)

abbrev pub put_entry : ℕ → ℕ → Outcome → Entry
put_entry seat id outcome = Put seat id outcome.found outcome.low (step_of outcome.next)

abbrev pub PiecesStored : TreeView → Next → Type 0
PiecesStored t ShutNext = Unit {0}
PiecesStored t (SplitNext common column at left right) =
    let n = length (nodes_of t.problem (past_of t)) in
    (left ≡ stored_of t.problem t.settings (past_of t) (n - 2))
    × (right ≡ stored_of t.problem t.settings (past_of t) (n - 1))

-- the outcome may be put for the lease
pub record IsPutFor (t : TreeView) (seat : ℕ) (lease : LeaseView) (outcome : Outcome) : Type 0 where
  pub leased : IsLeaseOf t seat lease
  pub allowed : MayPut t.problem t.settings (past_of t) seat lease.id outcome.found outcome.low
      (step_of outcome.next)
  pub pieces : PiecesStored (extended t (put_entry seat lease.id outcome)) outcome.next
