-- The seats of the workers, and how they ended.
use Rattle.std.specs.Prelude.{◌≡◌, ℕ, ◌+◌, ◌<◌, List, [], ◌++◌, All, length, slice_index_or}
use Rattle.bl_problem.specs.Program.{Program}
use Rattle.bl_problem.specs.declared.cut.Cut.{Cut}
use Rattle.bl_desc.specs.declared.desc.Desc.{Desc}
use Rattle.bl_journal.specs.declared.entry.Entry.{Entry}
use Rattle.bl_journal.specs.Legality.{seat_of}
use Rattle.bl_branch.specs.declared.place.Place.{Place}
use Rattle.bl_turn.specs.Entries.{entries_by, FromOneTo, BeginsWith}
use Rattle.bl_turn.specs.Seats.{view_of}
use Rattle.bl_shared.specs.declared.shared.SharedTree.{SharedTree}
use Rattle.bl_shared.specs.Calls.{Knows, IsSeatOf, tree_seen}
use Rattle.bl_worker.specs.declared.run.Job.{Job}
use Rattle.bl_worker.specs.Splits.{SplitsOwnAt}
use Rattle.bl_worker.specs.Loops.{HasLooped}

-- what the worker of this number knows at its start, where seat 0 knows this
abbrev pub first_of_worker : Knows → ℕ → Knows
first_of_worker v number = record {
  number = number;
  base = v.base;
  seen = v.seen;
  mine =
      entries_by seat_of number v.seen;
  given = 0;
  ended = [];
}

-- the seat of the worker of this number, which has not begun
pub record IsWorkerSeat (t : SharedTree) (v : Knows) (number : ℕ) (j : Job) : Type 0 where
  pub seat : IsSeatOf t j.seat
  pub knows : view_of j.seat ≡ first_of_worker v number

-- the seats of the workers, by their numbers from 1 on
abbrev pub AreWorkerSeats : SharedTree → Knows → List Job → Type 0
AreWorkerSeats t v jobs = (i : ℕ) (d : Job) → i < length jobs
    → IsWorkerSeat t v (i + 1) (slice_index_or jobs i d)

-- the seat is one of the tree's, and has no entry
pub record IsReady (t : SharedTree) (p : Program) (span : ℕ) (j : Job) : Type 0 where
  pub seat : IsSeatOf t j.seat
  pub problem : (tree_seen (view_of j.seat)).problem ≡ p
  pub span_is : (tree_seen (view_of j.seat)).settings.span ≡ span
  pub fresh : (view_of j.seat).mine ≡ []

-- the worker has looped, and has split its nodes at places that P allows
pub record HasRun (P : Desc Cut → Place → Type 0) (t : SharedTree) (old new : Job) : Type 0 where
  pub seat : IsSeatOf t new.seat
  pub looped : HasLooped (view_of old.seat) new.end (view_of new.seat)
  pub places : SplitsOwnAt P (view_of new.seat)

-- seat 0 took in these seats: it has seen what each had, and in the history as it knows it each
-- has the entries that it had
pub record HaveJoined (v : Knows) (jobs : List Job) (w : Knows) : Type 0 where
  pub number : w.number ≡ v.number
  pub base : w.base ≡ v.base
  pub given : w.given ≡ v.given
  pub entries : List Entry
  pub seen : w.seen ≡ v.seen ++ entries
  pub from_given : FromOneTo seat_of v.given entries
  pub met : All (λ j. BeginsWith w.seen (view_of j.seat).seen) jobs
  pub own : All (λ j. entries_by seat_of (view_of j.seat).number w.seen ≡ (view_of j.seat).mine)
      jobs
  pub joined : length w.ended ≡ length v.ended + length jobs
