-- What a clause reads of a turn.
use Rattle.std.specs.Prelude.{◌≡◌, List, [], ◌∷◌}
use Rattle.std.specs.Borrow.{Lends, MutBor, Fml}
use Rattle.std.specs.declared.snapshot.Snapshot.{Snapshot}
use mir.Syntax.{named}
use denote.RattleType.{RattleType}
use Rattle.bl_turn.specs.declared.told.Told.{Ghosts}
use Rattle.bl_turn.specs.declared.view.Stage.TheVariants.{In, Shown}
use Rattle.bl_turn.specs.declared.view.Slot.TheVariants.{Out, Noted}
use Rattle.bl_turn.specs.declared.seat.Seat.{Seat}
use Rattle.bl_turn.specs.declared.held.Held.{Held}
use Rattle.bl_turn.specs.contracts.held.Held.{the_row}
use Rattle.bl_turn.specs.Seats.{IsOf}

module _ {V E B : Type 0} {g : Ghosts V E B} where
  -- the seat that has the turn
  abbrev pub seat_of : Held V E B g → Seat V E B g
  seat_of h = h.seat.now

  -- the lock's value
  abbrev pub value_of : Held V E B g → V
  value_of h = h.value

  -- the list that the value stood for when the turn began
  abbrev pub history : Held V E B g → List E
  history h = h.seat.now.place.me.0.found

  -- neither `commit` nor `look` was called since the turn began
  abbrev pub IsIn : Held V E B g → Type 0
  IsIn h = IsOf h.turn.now h.seat.now × (h.seat.now.place.me.0.stage ≡ In)
      × (h.seat.now.place.me.1 ≡ (0, Out) ∷ [])

  -- `commit` or `look` was called since the turn began
  abbrev pub IsShown : Held V E B g → Type 0
  IsShown h = IsOf h.turn.now h.seat.now × (h.seat.now.place.me.0.stage ≡ Shown)
      × ((n : Snapshot V) × (h.seat.now.place.me.1 ≡ (0, Noted n) ∷ []))

  -- it is the turn of this borrow of a seat
  abbrev pub IsTurnOf : MutBor (Seat V E B g) → Held V E B g → Type 0
  IsTurnOf p h = h.seat.ghost_name ≡ p.ghost_name

  -- both are turns of one borrow of a seat, at one lock
  abbrev pub SameBorrow : Held V E B g → Held V E B g → Type 0
  SameBorrow h k = (k.seat.ghost_name ≡ h.seat.ghost_name) × (k.turn.now ≡ h.turn.now)

  -- the turn, with w for the lock's value
  abbrev pub with_value : Held V E B g → V → Held V E B g
  with_value h w = record h { value = w }

-- the turn ends with the last value behind r for the lock's value
abbrev pub LendsValue : (V E B : RattleType) (g : Ghosts V.Denot E.Denot B.Denot)
    → MutBor (Held V.Denot E.Denot B.Denot g) → MutBor V.Denot → Fml
LendsValue V E B g s r = Lends (the_row (record { mir = named 1; lft = [] }) V E B g) V s r
    (with_value s.now)
