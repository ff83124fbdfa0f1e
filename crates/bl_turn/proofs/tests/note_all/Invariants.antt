use Rattle.bl_turn.specs.Seats.{IsOf, IsAway}
use Rattle.bl_turn.proofs.tests.note_all.Given as goal

abbrev pub invariant-loop-n : goal.invariant-loop-n
invariant-loop-n g l = IsOf l.turn l.seat × IsAway l.seat
