use Rattle.std.proofs.Common.{◌≡◌, ◌-◌, [], vec_len, All}
use Rattle.bl_turn.specs.Seats.{number, given, ended}
use Rattle.bl_rows.specs.Shared.{IsAt}
use Rattle.bl_rows.proofs.shared.split_all.Given as goal

abbrev pub invariant-seats : goal.invariant-seats
invariant-seats g l = IsAt l.tree l.fn.size.high l.fn.size.nodes l.first × (number l.first ≡ 0)
    × (given l.first ≡ vec_len l.seats) × (ended l.first ≡ [])
    × All (λ s. IsAt l.tree l.fn.size.high l.fn.size.nodes s) l.seats.items

abbrev pub decreases-seats : goal.decreases-seats
decreases-seats g l = 4 - vec_len l.seats
