use Rattle.std.proofs.Common.{◌≡◌}
use Rattle.bl_turn.specs.Seats.{SameLock}
use Rattle.bl_turn.proofs.turn.Turn.lock.Given as goal

abbrev pub invariant-loop : goal.invariant-loop
invariant-loop g l = SameLock l.initial.seat l.seat × (l.seat.place.me ≡ l.initial.seat.place.me)
