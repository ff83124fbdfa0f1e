-- What a clause reads of a seat.
use Rattle.std.specs.Prelude.{◌≡◌, ℕ, List, [], Option}
use Rattle.bl_turn.specs.declared.told.Told.{Ghosts}
use Rattle.bl_turn.specs.declared.view.Stage.TheVariants.{Away}
use Rattle.bl_turn.specs.declared.view.View.{View}
use Rattle.bl_turn.specs.declared.seat.Seat.{Seat}
use Rattle.bl_turn.specs.declared.turn.Turn.{Turn}

module _ {V E B : Type 0} {g : Ghosts V E B} where
  -- what the seat knows
  abbrev pub view_of : Seat V E B g → View E B
  view_of p = p.place.me.0.view

  -- the number that its entries carry
  abbrev pub number : Seat V E B g → ℕ
  number p = (view_of p).number

  -- the base of the lock's value
  abbrev pub base_of : Seat V E B g → Option B
  base_of p = (view_of p).base

  -- the beginning of the history that it has seen
  abbrev pub seen : Seat V E B g → List E
  seen p = (view_of p).seen

  -- the entries of `seen` that carry its number
  abbrev pub mine : Seat V E B g → List E
  mine p = (view_of p).mine

  -- how many seats seat 0 gave
  abbrev pub given : Seat V E B g → ℕ
  given p = (view_of p).given

  -- the numbers of the seats that were joined into seat 0, each with the `mine` that it had
  abbrev pub ended : Seat V E B g → List (ℕ × List E)
  ended p = (view_of p).ended

  -- the length of the history when its lock was made
  abbrev pub length_at_start : Seat V E B g → ℕ
  length_at_start p = p.place.me.0.first

  -- it is a seat of this lock
  abbrev pub IsOf : Turn V E B → Seat V E B g → Type 0
  IsOf t p = p.place.table_id ≡ t.board.shared.table_id

  -- two seats of one lock
  abbrev pub SameLock : Seat V E B g → Seat V E B g → Type 0
  SameLock p q = q.place.table_id ≡ p.place.table_id

  -- it does not have the turn
  abbrev pub IsAway : Seat V E B g → Type 0
  IsAway p = (p.place.me.0.stage ≡ Away) × (p.place.me.1 ≡ [])
