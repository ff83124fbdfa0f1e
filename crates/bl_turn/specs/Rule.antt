-- What holds of the lock between any two steps. Word 0, busy, is 1 while a seat has the turn and
-- else 0; word 1 counts the entries that were added.
use Rattle.std.specs.Prelude.{◌≡◌, ◌⊎◌, ℕ, ◌+◌, ◌%◌, ◌^◌, ◌<◌, ◌≤◌, true, false, List, [], ◌++◌}
use Rattle.std.specs.Prelude.{length, slice_index, drop, All, Any, Some}
use mathlib.Core.Option.{some}
use lib.ListN.{get_elem?}
use Rattle.atomic_table.specs.Table.{State}
use Rattle.bl_turn.specs.declared.view.Stage.{Stage}
use Rattle.bl_turn.specs.declared.view.Stage.TheVariants.{Away, In, Shown, Spent}
use Rattle.bl_turn.specs.declared.view.Account.{Account}
use Rattle.bl_turn.specs.declared.view.Slot.{Slot}
use Rattle.bl_turn.specs.declared.view.Slot.TheVariants.{Home}
use Rattle.bl_turn.specs.Entries.{entries_by, BeginsWith}
use Rattle.bl_turn.specs.Accounts.{HasTurn, is_spent, spent_account, count_spent}

-- A seat j that has the turn is the holder, and busy is 1. What it found, or what it has seen
-- once it has shown the value, is the whole history.
abbrev pub AtStage : {E : Type 0} → (busy holder : ℕ) (history found seen : List E) (j : ℕ)
    → Stage → Type 0
AtStage busy holder history found seen j Away = Unit {0}
AtStage busy holder history found seen j In = (busy ≡ 1) × (j ≡ holder) × (found ≡ history)
AtStage busy holder history found seen j Shown = (busy ≡ 1) × (j ≡ holder) × (seen ≡ history)
AtStage busy holder history found seen j Spent = Unit {0}

module _ {E B : Type 0} (by : E → ℕ) where
  -- What seat 0, with the account a, knows of the others, where `rest` is what it has not seen.
  pub record Leads (accounts : List (Account E B)) (rest : List E) (a : Account E B) : Type 0 where
    -- the seats that were made are itself and those that it gave
    pub counted : length accounts ≡ a.view.given + 1
    -- the list that it keeps for a number is that of all the entries which carry it
    pub ended_seen : All (λ (p : ℕ × List E). entries_by by p.0 a.view.seen ≡ p.1) a.view.ended
    pub ended_past : All (λ (p : ℕ × List E). entries_by by p.0 rest ≡ []) a.view.ended
    -- it keeps one for each seat that was joined, and for no other
    pub ended_spent : All (λ (p : ℕ × List E). get_elem? accounts p.0 ≡ some spent_account)
        a.view.ended
    pub spent_ended : (j : ℕ) (b : Account E B) → get_elem? accounts j ≡ some b → is_spent b
        ≡ true → Any (λ (p : ℕ × List E). p.0 ≡ j) a.view.ended
    pub all_ended : count_spent accounts ≡ length a.view.ended

-- by, told and base are the meanings of a value and its entries; the lock was made round `value`
module _ {V E B : Type 0} (by : E → ℕ) (told : V → List E) (base : V → B) (value : V) where
  -- the seat j was not joined
  pub record Stands (accounts : List (Account E B)) (history : List E) (j : ℕ) (a : Account E B) :
      Type 0 where
    -- it has the lock's base, as the seat of its last join had, and the lock's first length, and
    -- its place for a number
    pub based : a.view.base ≡ Some (base value)
    pub met_based : a.met_base ≡ Some (base value)
    pub begun : a.first ≡ length (told value)
    pub numbered : a.view.number ≡ j
    -- it has seen a beginning of the history, which its last join did not shorten
    pub rest : List E
    pub whole : history ≡ a.view.seen ++ rest
    pub reaches : a.first ≤ length a.view.seen
    pub since : BeginsWith a.view.seen a.before
    pub with_met : BeginsWith a.view.seen a.met
    -- all entries of its number are there
    pub own : entries_by by j a.view.seen ≡ a.view.mine
    pub own_past : entries_by by j rest ≡ []
    pub leads : j ≡ 0 → Leads by accounts rest a

  pub record Fits (accounts : List (Account E B)) (busy holder : ℕ) (history : List E) (j : ℕ)
      (a : Account E B) : Type 0 where
    pub at : AtStage busy holder history a.found a.view.seen j a.stage
    pub stands : is_spent a ≡ false → Stands accounts history j a

  -- there is one history
  pub record Kept (s : State (Slot V) (Account E B)) : Type 0 where
    pub history : List E
    pub wide : length s.words ≡ 2
    pub deep : length s.homes ≡ 1
    -- word 1 counts the entries that it got since the lock was made
    pub added : ℕ
    pub long : length history ≡ length (told value) + added
    pub counted : slice_index s.words 1 ≡ added % 2 ^ 64
    -- these carry the numbers of seats that were made
    pub made : All (λ e. by e < length s.views) (drop (length (told value)) history)
    -- word 0 is 0, and the value is at home, stands for the history and has the base; or it is
    -- 1, and the holder has the turn
    pub holder : ℕ
    pub busy : (slice_index s.words 0 ≡ 0) ⊎ (slice_index s.words 0 ≡ 1)
    pub free : slice_index s.words 0 ≡ 0 → (x : V) × (get_elem? s.homes 0 ≡ some (some (Home x)))
        × (told x ≡ history) × (base x ≡ base value)
    pub taken : slice_index s.words 0 ≡ 1 → (a : Account E B)
        × (get_elem? s.views holder ≡ some a) × HasTurn a.stage
    -- each seat fits the history, and one that stands has seen it whole
    pub each_seat : (j : ℕ) (a : Account E B) → get_elem? s.views j ≡ some a
        → Fits s.views (slice_index s.words 0) holder history j a
    pub longest : (j : ℕ) × (a : Account E B) × (get_elem? s.views j ≡ some a)
        × (is_spent a ≡ false) × (a.view.seen ≡ history)
