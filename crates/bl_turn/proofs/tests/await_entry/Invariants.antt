use Rattle.bl_turn.specs.Seats.{IsOf, IsAway}
use Rattle.bl_turn.proofs.tests.await_entry.Given as goal

abbrev pub invariant-loop : goal.invariant-loop
invariant-loop g l = IsOf l.turn l.seat × IsAway l.seat
