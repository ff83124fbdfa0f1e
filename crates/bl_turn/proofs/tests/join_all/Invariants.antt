use Rattle.std.proofs.Common.{◌≡◌, ◌+◌, length, vec_len, All}
use Rattle.bl_turn.specs.Seats.{number, given, ended, IsOf, IsAway}
use Rattle.bl_turn.proofs.tests.join_all.Given as goal

abbrev pub invariant-loop-seat : goal.invariant-loop-seat
invariant-loop-seat l = IsOf l.turn l.first × IsAway l.first × (number l.first ≡ 0)
    × (given l.first ≡ length (ended l.first) + vec_len l.seats)
    × All (λ s. IsOf l.turn s × IsAway s) l.seats.items

abbrev pub decreases-loop-seat : goal.decreases-loop-seat
decreases-loop-seat l = vec_len l.seats
