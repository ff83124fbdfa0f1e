use Rattle.std.proofs.Common.{◌≡◌, length}
use Rattle.bl_turn.specs.Seats.{number, given, ended}
use Rattle.bl_rows.specs.Shared.{IsAt}
use Rattle.bl_rows.proofs.shared.free_all.Given as goal

abbrev pub invariant-loop : goal.invariant-loop
invariant-loop g l = IsAt l.tree l.fn.size.high l.fn.size.nodes l.seat × (number l.seat ≡ 0)
    × (length (ended l.seat) ≡ given l.seat)
