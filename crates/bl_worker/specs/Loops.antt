-- What a worker does to the shared tree, told by what its seat knows.
use Rattle.std.specs.Prelude.{◌≡◌, ℕ, ◌+◌, ◌%◌, List, ◌++◌, All, false, reverse, Option, Some}
use Rattle.std.specs.Prelude.{None, IfSome}
use Rattle.bl_journal.specs.declared.entry.Entry.{Entry}
use Rattle.bl_journal.specs.declared.outcome.Outcome.{Outcome}
use Rattle.bl_journal.specs.States.{state_of}
use Rattle.bl_journal.specs.Replies.{Reply, is_out, take_reply, done as says_done}
use Rattle.bl_journal.specs.Replies.{spent as says_spent}
use Rattle.bl_journal.specs.Legality.{seat_of}
use Rattle.bl_journal.specs.Tidying.{IsUpkeepBy, IsSettled, WasSettled, IsTidied, splits_of}
use Rattle.bl_tree.specs.declared.answer.Born.{Born}
use Rattle.bl_tree.specs.Views.{LeaseView, past_of}
use Rattle.bl_search.specs.Searches.{AreSerialsBelow}
use Rattle.bl_shared.specs.Calls.{Knows, tree_seen, PutsIn}
use Rattle.bl_journal.specs.Seats.{HasNoBack}
use Rattle.bl_worker.specs.declared.worker.WorkerEnd.{WorkerEnd}
use Rattle.bl_worker.specs.declared.worker.WorkerEnd.TheVariants.{Done as EndDone}
use Rattle.bl_worker.specs.declared.worker.WorkerEnd.TheVariants.{Spent as EndSpent}
use Rattle.bl_worker.specs.declared.worker.WorkerEnd.TheVariants.{Memory as EndMemory}
use Rattle.bl_worker.specs.declared.worker.Round.{Round}
use Rattle.bl_worker.specs.declared.worker.Round.TheVariants.{Worked, Idle, Done, Spent}

-- others and the seat added these entries, of which `own` are the seat's
abbrev pub GoesOnBy : Knows → List Entry → List Entry → Knows → Type 0
GoesOnBy v entries own w = w ≡ record v { seen = v.seen ++ entries; mine = v.mine ++ own }

-- the seat's history goes on
pub record Grows (v w : Knows) : Type 0 where
  pub entries : List Entry
  pub own : List Entry
  pub goes : GoesOnBy v entries own w

-- the outcome of some work was put in, and these nodes were born
abbrev pub HandsIn : Knows → LeaseView → Option Born → Knows → Type 0
HandsIn v lease born w = (outcome : Outcome) × PutsIn v lease outcome born w

-- where the entry is the seat's, the seat encoded or freed
abbrev pub IsQuiet : ℕ → Entry → Type 0
IsQuiet seat e = seat_of e ≡ seat → IsUpkeepBy seat e

-- the seat encoded and freed, and did nothing else
pub record IsKeptUp (v w : Knows) : Type 0 where
  pub entries : List Entry
  pub own : List Entry
  pub goes : GoesOnBy v entries own w
  pub quiet : All (IsQuiet v.number) entries
  pub upkeep : All (IsUpkeepBy v.number) own

-- the node is explicit or freed
abbrev pub IsStoredWhole : ℕ → Knows → Type 0
IsStoredWhole id w = IsSettled (tree_seen w).problem (tree_seen w).settings
    (past_of (tree_seen w)) id

-- how many puts have split, counted anew after each fourth, once these nodes were born
abbrev pub count_with : ℕ → Option Born → ℕ
count_with count None = count
count_with count (Some born) = (count + 1) % 4

-- both children were explicit or freed at some time, where they are those of a fourth split
pub record HasTidied (v : Knows) (born : Option Born) (count : ℕ) (w : Knows) : Type 0 where
  pub kept_up : IsKeptUp v w
  pub left : IfSome born (λ b. count ≡ 0 → WasSettled (tree_seen v).problem (tree_seen v).settings
      v.number (reverse kept_up.entries) (past_of (tree_seen v)) b.left)
  pub right : IfSome born (λ b. count ≡ 0 → WasSettled (tree_seen v).problem
      (tree_seen v).settings v.number (reverse kept_up.entries) (past_of (tree_seen v)) b.right)

-- no node is out with the seat, as its own entries tell: each of its takes has its put or back
abbrev pub HoldsNone : Knows → Type 0
HoldsNone v = (id : ℕ) → is_out (state_of (reverse v.mine) id) ≡ false

-- the serial numbers of the cuts that the seat has added are below this one
abbrev pub AreOwnSerialsBelow : ℕ → Knows → Type 0
AreOwnSerialsBelow serial v = AreSerialsBelow v.number serial (past_of (tree_seen v))

-- the seat holds no node, gave none back, and has tidied. So many puts have split since the last
-- fourth split
pub record IsBetween (v : Knows) (splits : ℕ) : Type 0 where
  pub holds_none : HoldsNone v
  pub no_back : HasNoBack v.mine
  pub tidied : IsTidied (tree_seen v).problem (tree_seen v).settings v.number
      (past_of (tree_seen v))
  pub counted : splits ≡ splits_of v.number (past_of (tree_seen v)) % 4

-- a loop or a round that ended for want of memory
pub record Fails (v w : Knows) : Type 0 where
  pub grows : Grows v w
  pub holds_none : HoldsNone w

-- the reply that a take got at what the seat has seen
abbrev pub WasTold : Reply → Knows → Type 0
WasTold reply w = take_reply (tree_seen w).problem (tree_seen w).settings (past_of (tree_seen w))
    ≡ reply

abbrev pub EndsRound : ℕ → ℕ → Round → Knows → Type 0
EndsRound splits serial (Worked count next) w = IsBetween w count × AreOwnSerialsBelow next w
EndsRound splits serial Idle w = IsBetween w splits × AreOwnSerialsBelow serial w
EndsRound splits serial Done w = IsBetween w splits × WasTold says_done w
EndsRound splits serial Spent w = IsBetween w splits × WasTold says_spent w

-- what a round does
pub record Rounds (v : Knows) (splits serial : ℕ) (round : Round) (w : Knows) : Type 0 where
  pub grows : Grows v w
  pub ends : EndsRound splits serial round w

abbrev pub EndsLoop : WorkerEnd → Knows → Type 0
EndsLoop EndMemory w = Unit {0}
EndsLoop EndDone w = WasTold says_done w
EndsLoop EndSpent w = WasTold says_spent w

-- the seat gave no node back, and has tidied
pub record IsOrderly (w : Knows) : Type 0 where
  pub no_back : HasNoBack w.mine
  pub tidied : IsTidied (tree_seen w).problem (tree_seen w).settings w.number
      (past_of (tree_seen w))

abbrev pub IsOrderlyAt : WorkerEnd → Knows → Type 0
IsOrderlyAt EndMemory w = Unit {0}
IsOrderlyAt EndDone w = IsOrderly w
IsOrderlyAt EndSpent w = IsOrderly w

-- What a loop does. The seat holds no node at the end. Where it did not end for want of memory
-- it gave none back and has tidied, and its last take was answered so
pub record HasLooped (v : Knows) (end : WorkerEnd) (w : Knows) : Type 0 where
  pub grows : Grows v w
  pub holds_none : HoldsNone w
  pub orderly : IsOrderlyAt end w
  pub ends : EndsLoop end w
