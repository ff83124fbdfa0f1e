-- The search by one seat.
use Rattle.std.specs.Prelude.{◌≡◌, ℕ, pos, ◌+◌, ◌*◌, ◌^◌, ◌%◌, ◌==◌, ◌<◌, ◌≤◌, List, ◌++◌, All}
use Rattle.std.specs.Prelude.{Bool, true, false, reverse, Option, Some, None, IfSome}
use Rattle.bl_problem.specs.Program.{Program}
use Rattle.bl_problem.specs.declared.cut.Cut.{Cut}
use Rattle.bl_desc.specs.declared.desc.Desc.{Desc}
use Rattle.bl_problem.specs.Points.{own_lows, own_highs, points_in}
use Rattle.bl_journal.specs.declared.entry.Entry.{Entry}
use Rattle.bl_journal.specs.declared.outcome.Outcome.{Outcome}
use Rattle.bl_journal.specs.declared.settings.Settings.{Settings}
use Rattle.bl_journal.specs.States.{state_of, used_of}
use Rattle.bl_journal.specs.Replies.{Reply, is_out, take_reply, done as says_done}
use Rattle.bl_journal.specs.Replies.{spent as says_spent}
use Rattle.bl_journal.specs.Legality.{IsLegal, seat_of, ids_added, most_new_cuts}
use Rattle.bl_journal.specs.Results.{HasNoLive, IsSpent, IsFinal, answer_of}
use Rattle.bl_journal.specs.Freeing.{HasNothingToFree}
use Rattle.bl_journal.specs.Tidying.{IsUpkeepBy, IsSettled, WasSettled, IsTidied, splits_of}
use Rattle.bl_tree.specs.declared.answer.Born.{Born}
use Rattle.bl_tree.specs.Views.{TreeView, LeaseView, IsLegalTree, IsLeaseOf, IsPutFor, past_of}
use Rattle.bl_tree.specs.Views.{extended, put_entry}
use Rattle.bl_branch.specs.declared.place.Place.{Place}
use Rattle.bl_search.specs.Places.{PutsAt}
use Rattle.bl_tree.specs.Answers.{born_for}
use Rattle.bl_node.specs.declared.limits.Limits.{Limits}
use Rattle.bl_search.specs.declared.search.Turn.{Turn}
use Rattle.bl_search.specs.declared.search.Turn.TheVariants.{Worked, Done, Spent}
use Rattle.bl_search.specs.declared.search.EndedSearch.{EndedSearch}

-- the serial numbers of the cuts that the seat has added are below this one
abbrev pub AreSerialsBelow : ℕ → ℕ → List Entry → Type 0
AreSerialsBelow seat serial past = All (λ id. id.seat ≡ seat → id.serial < serial) (ids_added past)

-- what a seat's work on a node at this depth may do, where each depth that the span divides is
-- stored whole, with serial numbers from this one on
pub record AreLimitsAt (span depth seat serial : ℕ) (limits : Limits) : Type 0 where
  pub few_cuts : limits.new_cuts ≤ most_new_cuts depth
  pub room : serial + limits.new_cuts < 2 ^ 32
  pub explicit : limits.explicit ≡ (depth + 1) % span == 0
  pub seat_is : limits.seat ≡ seat
  pub serial_is : limits.serial ≡ serial

-- the lease of a seat stands in this legal tree, and the serial numbers from this one on are
-- free for the seat's cuts
pub record MayBeWorkedOn (p : Program) (span seat serial : ℕ) (lease : LeaseView) (t : TreeView) :
    Type 0 where
  pub legal : IsLegalTree t
  pub problem : t.problem ≡ p
  pub span_is : t.settings.span ≡ span
  pub leased : IsLeaseOf t seat lease
  pub serials : AreSerialsBelow seat serial (past_of t)

-- the outcome may be put in here; then the serial numbers from this one on are free, and it
-- splits at a place that P allows
pub record IsWorkedOut (P : Desc Cut → Place → Type 0) (p : Program) (seat serial : ℕ)
    (lease : LeaseView) (o : Outcome) (t : TreeView) : Type 0 where
  pub fits : IsPutFor t seat lease o
  pub serials : AreSerialsBelow seat serial (past_of (extended t (put_entry seat lease.id o)))
  pub places : PutsAt P p (past_of t) (put_entry seat lease.id o)

-- no node is out, none may be freed, and each entry is by seat 0, which has tidied
pub record IsBetweenTurns (t : TreeView) : Type 0 where
  pub none_out : (id : ℕ) → is_out (state_of (past_of t) id) ≡ false
  pub nothing_to_free : HasNothingToFree t.problem t.settings (past_of t)
  pub tidied : IsTidied t.problem t.settings 0 (past_of t)
  pub seats : All (λ e. seat_of e ≡ 0) (past_of t)

-- the outcome of some work was put in, and these nodes were born
pub record PutsIn (old : TreeView) (lease : LeaseView) (born : Option Born) (new : TreeView) :
    Type 0 where
  pub outcome : Outcome
  pub is : new ≡ extended old (put_entry 0 lease.id outcome)
  pub born_is : born ≡ born_for old outcome.next

-- seat 0 encoded and freed, and did nothing else. The last entry comes first
pub record IsKeptUp (old new : TreeView) : Type 0 where
  pub problem : new.problem ≡ old.problem
  pub settings : new.settings ≡ old.settings
  pub entries : List Entry
  pub past : past_of new ≡ entries ++ past_of old
  pub upkeep : All (IsUpkeepBy 0) entries

-- the node is explicit or freed now
pub record IsStoredWhole (old : TreeView) (id : ℕ) (new : TreeView) : Type 0 where
  pub kept_up : IsKeptUp old new
  pub settled : IsSettled new.problem new.settings (past_of new) id

-- both children were explicit or freed at some time since
pub record AreStoredWhole (old : TreeView) (born : Born) (new : TreeView) : Type 0 where
  pub kept_up : IsKeptUp old new
  pub left : WasSettled old.problem old.settings 0 kept_up.entries (past_of old) born.left
  pub right : WasSettled old.problem old.settings 0 kept_up.entries (past_of old) born.right

-- no node may be freed any more
pub record IsFreed (old new : TreeView) : Type 0 where
  pub kept_up : IsKeptUp old new
  pub nothing_to_free : HasNothingToFree new.problem new.settings (past_of new)

-- how many puts have split, once these nodes were born
abbrev pub count_with : ℕ → Option Born → ℕ
count_with count None = count
count_with count (Some born) = count + 1

-- no node may be freed any more, and after each fourth split both children were explicit or
-- freed at some time
pub record HasTidied (old : TreeView) (born : Option Born) (count : ℕ) (new : TreeView) : Type 0
  where
    pub kept_up : IsKeptUp old new
    pub nothing_to_free : HasNothingToFree new.problem new.settings (past_of new)
    pub left : IfSome born (λ b. count % 4 ≡ 0
        → WasSettled old.problem old.settings 0 kept_up.entries (past_of old) b.left)
    pub right : IfSome born (λ b. count % 4 ≡ 0
        → WasSettled old.problem old.settings 0 kept_up.entries (past_of old) b.right)

-- one more node was used, and so many puts have split by now
pub record HasWorked (old : TreeView) (count : ℕ) (new : TreeView) : Type 0 where
  pub between : IsBetweenTurns new
  pub problem : new.problem ≡ old.problem
  pub settings : new.settings ≡ old.settings
  pub used : used_of (past_of new) ≡ used_of (past_of old) + 1
  pub count_is : count ≡ splits_of 0 (past_of new)
  pub count_grew : count ≤ splits_of 0 (past_of old) + 1

abbrev pub EndsTurn : TreeView → Turn → TreeView → Type 0
EndsTurn old (Worked count serial) new = HasWorked old count new
    × AreSerialsBelow 0 serial (past_of new)
EndsTurn old Done new = (new ≡ old)
    × (take_reply old.problem old.settings (past_of old) ≡ says_done)
EndsTurn old Spent new = (new ≡ old)
    × (take_reply old.problem old.settings (past_of old) ≡ says_spent)

-- the budget is spent and a live node waits: it was less than twice the number of points, less 1
pub record IsLimited (p : Program) (s : Settings) (past : List Entry) : Type 0 where
  pub spent : IsSpent p s past
  pub short : s.nodes + 2 ≤ 2 * points_in (own_lows p) (own_highs p)

-- no node is live, and so the answer is final
pub record IsDecided (p : Program) (s : Settings) (past : List Entry) : Type 0 where
  pub none_live : HasNoLive p s past
  pub final_answer : IsFinal (answer_of p s past)

abbrev pub EndsBy : Bool → Program → Settings → List Entry → Type 0
EndsBy true p s past = IsLimited p s past
EndsBy false p s past = IsDecided p s past

-- the reply that ends a search
abbrev pub last_reply : Bool → Reply
last_reply true = says_spent
last_reply false = says_done

-- the history of a search by seat 0 and so many workers that has ended: no node is out, none may
-- be freed, and each seat has tidied
pub record IsEndedHistory (p : Program) (s : Settings) (workers : ℕ) (limited : Bool)
    (history : List Entry) : Type 0 where
  pub legal : IsLegal p s history
  pub none_out : (id : ℕ) → is_out (state_of (reverse history) id) ≡ false
  pub seats : All (λ e. seat_of e ≤ workers) history
  pub nothing_to_free : HasNothingToFree p s (reverse history)
  pub tidied : (seat : ℕ) → seat ≤ workers → IsTidied p s seat (reverse history)
  pub ends : EndsBy limited p s (reverse history)

-- a search by seat 0 and so many workers has ended
pub record IsSearched (p : Program) (s : Settings) (workers : ℕ) (search : EndedSearch) : Type 0
  where
    pub problem : search.tree.problem ≡ p
    pub settings : search.tree.settings ≡ s
    pub ended : IsEndedHistory p s workers search.limited search.tree.history
