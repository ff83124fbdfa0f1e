use Rattle.std.proofs.Common.{◌≡◌, ◌≤◌, []}
use Rattle.bl_turn.specs.Seats.{number, given, ended, IsOf, IsAway}
use Rattle.bl_turn.proofs.tests.log_after.Given as goal

abbrev pub invariant-loop-who : goal.invariant-loop-who
invariant-loop-who g l = IsOf l.turn l.first × IsAway l.first × (number l.first ≡ 0)
    × (given l.first ≡ 2) × (ended l.first ≡ []) × IsOf l.turn l.one × IsAway l.one
    × IsOf l.turn l.two × IsAway l.two × (l.so_far ≤ l.who-index)
