use Rattle.std.proofs.Common.{◌≡◌, ◌-◌, [], vec_len, All}
use Rattle.bl_turn.specs.Seats.{number, given, ended, IsOf, IsAway}
use Rattle.bl_turn.proofs.tests.split_all.Given as goal

abbrev pub invariant-seats : goal.invariant-seats
invariant-seats g l = IsOf l.turn l.first × IsAway l.first × (number l.first ≡ 0)
    × (given l.first ≡ vec_len l.seats) × (ended l.first ≡ [])
    × All (λ s. IsOf l.turn s × IsAway s) l.seats.items

abbrev pub decreases-seats : goal.decreases-seats
decreases-seats g l = 4 - vec_len l.seats
