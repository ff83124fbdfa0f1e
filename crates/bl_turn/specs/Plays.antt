-- What a step on a word tells the seat that makes it. `m` is the seat's account and its slots
-- before the step, `m'` after it, and `found` is the number that the word had.
use Rattle.std.specs.Prelude.{◌≡◌, ◌≢◌, ℕ, ◌-◌, ◌%◌, ◌^◌, ◌≤◌, Bool, true, false, List, [], ◌∷◌}
use Rattle.std.specs.Prelude.{length, drop, All, Some}
use Rattle.atomic_table.specs.Table.{Me, Step}
use Rattle.std.specs.declared.snapshot.Snapshot.{Snapshot}
use Rattle.bl_turn.specs.declared.view.Account.{Account}
use Rattle.bl_turn.specs.declared.view.Slot.{Slot}
use Rattle.bl_turn.specs.declared.view.Slot.TheVariants.{Home, Noted}
use Rattle.bl_turn.specs.Entries.{entries_by, BeginsWith}
use Rattle.bl_turn.specs.Views.{GoesOn}
use Rattle.bl_turn.specs.Accounts.{after_enter, after_show, after_leave}

module _ {E B : Type 0} (by : E → ℕ) where
  -- what holds of the account of a seat that was not joined
  pub record Settled (a : Account E B) : Type 0 where
    pub own : entries_by by a.view.number a.view.seen ≡ a.view.mine
    pub same_base : a.met_base ≡ a.view.base
    pub reaches : a.first ≤ length a.view.seen
    pub since : BeginsWith a.view.seen a.before
    pub with_met : BeginsWith a.view.seen a.met
    pub made : a.view.number ≡ 0 → All (λ e. by e ≤ a.view.given) (drop a.first a.view.seen)
    pub ended : a.view.number ≡ 0 → All (λ (p : ℕ × List E). entries_by by p.0 a.view.seen ≡ p.1)
        a.view.ended

module _ {V E B : Type 0} (by : E → ℕ) (told : V → List E) (base : V → B) where
  -- The seat took the turn, and the value with it.
  abbrev pub Took : Me (Slot V) (Account E B) → Me (Slot V) (Account E B) → Type 0
  Took m m' = (x : V) × (m' ≡ (after_enter m.0 (told x), (0, Home x) ∷ m.1))
      × (m.0.view.base ≡ Some (base x)) × GoesOn by m.0.view (told x)

  -- A compare-exchange of busy. Where it found 0, the seat has the turn and the value.
  abbrev pub Enters : Step (Slot V) → Me (Slot V) (Account E B) → ℕ → Me (Slot V) (Account E B)
      → Type 0
  Enters st m found m' = (found ≡ 0 → Took m m') × (found ≢ 0 → m' ≡ m)

  -- A try to take the turn, which tells whether the seat has it.
  abbrev pub Tries : Me (Slot V) (Account E B) → Bool → Me (Slot V) (Account E B) → Type 0
  Tries m true m' = Took m m'
  Tries m false m' = m' ≡ m

  -- An add to count, which had the number of entries since the lock was made, modulo 2^64. The
  -- seat has then seen the list of the value that is noted in its slot.
  abbrev pub Shows : Step (Slot V) → Me (Slot V) (Account E B) → ℕ → Me (Slot V) (Account E B)
      → Type 0
  Shows st m found m' = (x : Snapshot V) → m.1 ≡ (0, Noted x) ∷ []
      → (m' ≡ (after_show by m.0 (told x.value), m.1)) × GoesOn by m.0.view m.0.found
      × (found ≡ (length m.0.found - m.0.first) % 2 ^ 64)

  -- a load
  abbrev pub Looks : Step (Slot V) → Me (Slot V) (Account E B) → ℕ → Me (Slot V) (Account E B)
      → Type 0
  Looks st m found m' = (m' ≡ m) × Settled by m.0

-- A store of 0 in busy. The seat has no turn and no slot.
abbrev pub Leaves : {V E B : Type 0} → Step (Slot V) → Me (Slot V) (Account E B) → ℕ
    → Me (Slot V) (Account E B) → Type 0
Leaves st m found m' = m' ≡ (after_leave m.0, [])
