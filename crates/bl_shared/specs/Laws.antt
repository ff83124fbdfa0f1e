-- What the entries of others leave as it was.
use Rattle.std.specs.Prelude.{ℕ, List}
use Rattle.bl_journal.specs.declared.entry.Entry.{Entry}
use Rattle.bl_journal.specs.declared.outcome.Outcome.{Outcome}
use Rattle.bl_journal.specs.Legality.{seat_of}
use Rattle.bl_tree.specs.Views.{TreeView, LeaseView, IsLegalTree, IsLeaseOf, IsPutFor}
use Rattle.bl_tree.specs.Jobs.{later}
use Rattle.bl_turn.specs.Entries.{NoneBy}

-- in a legal history a lease stays one under the entries of others, and what may be put for it may
-- be put after them
pub record LeasesOutlastOthers : Type 0 where
  pub lease : (t : TreeView) (others : List Entry) (seat : ℕ) (lease : LeaseView)
      → IsLegalTree (later t others) → NoneBy seat_of seat others
      → IsLeaseOf t seat lease → IsLeaseOf (later t others) seat lease
  pub outcome :
      (t : TreeView) (others : List Entry) (seat : ℕ) (lease : LeaseView) (outcome : Outcome)
      → IsLegalTree (later t others) → NoneBy seat_of seat others
      → IsPutFor t seat lease outcome → IsPutFor (later t others) seat lease outcome
