use Rattle.std.proofs.Common.{◌≡◌, ◌+◌, length, vec_len, All}
use Rattle.bl_turn.specs.Seats.{number, given, ended}
use Rattle.bl_rows.specs.Shared.{IsAt}
use Rattle.bl_rows.proofs.shared.join_all.Given as goal

abbrev pub invariant-loop-seat : goal.invariant-loop-seat
invariant-loop-seat l = IsAt l.tree l.fn.size.high l.fn.size.nodes l.first × (number l.first ≡ 0)
    × (given l.first ≡ length (ended l.first) + vec_len l.seats)
    × All (λ s. IsAt l.tree l.fn.size.high l.fn.size.nodes s) l.seats.items

abbrev pub decreases-loop-seat : goal.decreases-loop-seat
decreases-loop-seat l = vec_len l.seats
