-- Histories of many seats, and laws over them.
use Rattle.std.specs.Prelude.{◌≡◌, ◌≢◌, ◌⊎◌, ◌==◌, ℕ, ◌≤◌, Bool, true, false}
use Rattle.std.specs.Prelude.{List, ◌++◌, filter, reverse, All, Contains}
use Rattle.bl_mods.specs.declared.mods.ItemId.{ItemId}
use Rattle.bl_problem.specs.Program.{Program}
use Rattle.bl_journal.specs.declared.entry.Entry.{Entry}
use Rattle.bl_journal.specs.declared.entry.Entry.TheVariants.{Take, Put, Back, Encode, Free}
use Rattle.bl_journal.specs.declared.settings.Settings.{Settings}
use Rattle.bl_journal.specs.States.{state_of, used_of}
use Rattle.bl_journal.specs.declared.state.State.TheVariants.{Out as out}
use Rattle.bl_journal.specs.Replies.{is_out, take_reply, done, spent}
use Rattle.bl_journal.specs.Legality.{seat_of, IsLegal, ids_added}
use Rattle.bl_journal.specs.Results.{HasNoLive}
use Rattle.bl_journal.specs.Tidying.{IsTidied}

-- the entries of the seat, in order
abbrev pub entries_of : ℕ → List Entry → List Entry
entries_of seat entries = filter (λ e. seat_of e == seat) entries

-- no entry is the seat's
abbrev pub NoneOf : ℕ → List Entry → Type 0
NoneOf seat entries = All (λ e. seat_of e ≢ seat) entries

-- the node is out with the seat
abbrev pub IsOutWith : List Entry → ℕ → ℕ → Type 0
IsOutWith history id seat = state_of (reverse history) id ≡ out seat

-- no node is out
abbrev pub HasNoneOut : List Entry → Type 0
HasNoneOut history = (id : ℕ) → is_out (state_of (reverse history) id) ≡ false

-- in a legal history a node is out with a seat exactly where the seat's own entries say so. Where
-- each entry is by a seat from 0 to n, and the own entries of each of these leave no node out, none
-- is out
pub record HoldersAreTold : Type 0 where
  pub told :
      (history : List Entry) (id seat : ℕ) → IsOutWith history id seat
      → IsOutWith (entries_of seat history) id seat
  pub true_told :
      (p : Program) (s : Settings) (history : List Entry) (id seat : ℕ) → IsLegal p s history
      → IsOutWith (entries_of seat history) id seat → IsOutWith history id seat
  pub none_out :
      (history : List Entry) (n : ℕ) → All (λ e. seat_of e ≤ n) history
      → ((seat : ℕ) → seat ≤ n → HasNoneOut (entries_of seat history)) → HasNoneOut history

-- in a legal history the ids with a seat's number, among those of all cuts that were added, are ids
-- of cuts that the seat added
abbrev pub CutIdsAreTold : Type 0
CutIdsAreTold =
    (p : Program) (s : Settings) (history : List Entry) (x : ItemId) → IsLegal p s history
    → Contains (ids_added (reverse history)) x
    → Contains (ids_added (reverse (entries_of x.seat history))) x

-- the entry gives a node back
abbrev pub is_back : Entry → Bool
is_back (Back seat id) = true
is_back (Take seat id) = false
is_back (Put seat id found low next) = false
is_back (Encode seat id form) = false
is_back (Free seat ids) = false

-- no entry gives a node back
abbrev pub HasNoBack : List Entry → Type 0
HasNoBack entries = All (λ e. is_back e ≡ false) entries

-- a take would be answered that no node is live, or that one waits and as many are used as may be
abbrev pub IsOver : Program → Settings → List Entry → Type 0
IsOver p s past = (take_reply p s past ≡ done) ⊎ (take_reply p s past ≡ spent)

-- what has ended at the history stays so after the rest
pub record StaysEnded (p : Program) (s : Settings) (history rest : List Entry) : Type 0 where
  pub none_live : HasNoLive p s (reverse history) → HasNoLive p s (reverse (history ++ rest))
  pub all_used :
      HasNoBack rest → used_of (reverse history) ≡ s.nodes
      → used_of (reverse (history ++ rest)) ≡ s.nodes
  pub over :
      HasNoneOut (history ++ rest) → HasNoBack rest → IsOver p s (reverse history)
      → IsOver p s (reverse (history ++ rest))

-- in a legal history, where no node is live none is ever live again, and where as many nodes are
-- used as may be they stay used until one is given back. So a search is over where no node is out,
-- if it was over before and none was given back since
abbrev pub SearchesEnd : Type 0
SearchesEnd =
    (p : Program) (s : Settings) (history rest : List Entry) → IsLegal p s (history ++ rest)
    → StaysEnded p s history rest

-- a seat that has tidied stays so under the entries of others
abbrev pub SeatsStayTidy : Type 0
SeatsStayTidy =
    (p : Program) (s : Settings) (seat : ℕ) (history others : List Entry) → NoneOf seat others
    → IsTidied p s seat (reverse history) → IsTidied p s seat (reverse (history ++ others))
