-- The history once all workers have ended.
use Rattle.std.specs.Prelude.{◌≡◌, ◌≢◌, ◌⊎◌, ℕ, ◌+◌, ◌<◌, ◌≤◌, List, ◌++◌, All, length}
use Rattle.std.specs.Prelude.{slice_index_or}
use Rattle.bl_problem.specs.declared.cut.Cut.{Cut}
use Rattle.bl_desc.specs.declared.desc.Desc.{Desc}
use Rattle.bl_journal.specs.declared.entry.Entry.{Entry}
use Rattle.bl_journal.specs.Legality.{seat_of}
use Rattle.bl_journal.specs.Tidying.{IsTidied}
use Rattle.bl_branch.specs.declared.place.Place.{Place}
use Rattle.bl_tree.specs.Views.{TreeView, past_of}
use Rattle.bl_turn.specs.Entries.{entries_by, FromOneTo}
use Rattle.bl_shared.specs.Calls.{Knows, tree_seen}
use Rattle.bl_journal.specs.Seats.{HasNoneOut, HasNoBack, IsOver}
use Rattle.bl_worker.specs.declared.worker.WorkerEnd.{WorkerEnd}
use Rattle.bl_worker.specs.declared.worker.WorkerEnd.TheVariants.{Memory}
use Rattle.bl_worker.specs.Splits.{SplitsBy}

-- no entry is by a seat from 1 to this number
abbrev pub HasNoneByWorkers : ℕ → List Entry → Type 0
HasNoneByWorkers workers history = All (λ e. (seat_of e ≡ 0) ⊎ (workers < seat_of e)) history

-- in the whole history the seat gave no node back, and has tidied
pub record IsOrderlyIn (t : TreeView) (seat : ℕ) : Type 0 where
  pub no_back : HasNoBack (entries_by seat_of seat t.history)
  pub tidied : IsTidied t.problem t.settings seat (past_of t)

-- the entries that were added give no node back, and the search is over
pub record HasClosed (t : TreeView) (entries : List Entry) : Type 0 where
  pub no_back : HasNoBack entries
  pub over : IsOver t.problem t.settings (past_of t)

-- What runs of workers do, told by what seat 0 knows before and after. They added entries of
-- their own numbers alone, and no node is out. Each that did not end for want of memory gave no
-- node back and has tidied; where none did, no node was given back and the search is over
pub record HaveEnded (workers : ℕ) (v : Knows) (ends : List WorkerEnd) (w : Knows) : Type 0 where
  pub count : length ends ≡ workers
  pub number : w.number ≡ v.number
  pub base : w.base ≡ v.base
  pub given : w.given ≡ workers
  pub joined : length w.ended ≡ length v.ended + workers
  pub entries : List Entry
  pub seen : w.seen ≡ v.seen ++ entries
  pub by_workers : FromOneTo seat_of workers entries
  pub none_out : HasNoneOut w.seen
  pub orderly : (i : ℕ) (d : WorkerEnd) → i < workers
      → slice_index_or ends i d ≢ Memory → IsOrderlyIn (tree_seen w) (i + 1)
  pub closed : All (λ end. end ≢ Memory) ends → HasClosed (tree_seen w) entries

-- each worker has split its nodes at places that P allows
abbrev pub SplitByWorkersAt : ℕ → (Desc Cut → Place → Type 0) → TreeView → Type 0
SplitByWorkersAt workers P t =
    (seat : ℕ) → 1 ≤ seat → seat ≤ workers → SplitsBy seat P t.problem (past_of t)
