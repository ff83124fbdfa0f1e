use Rattle.std.proofs.Common.{rules}
use Rattle.bl_shared.proofs.Turning.{joined_seen}
use Rattle.bl_turn.specs.Seats.{view_of}
use Rattle.bl_shared.proofs.shared.SharedTree.join.Goals as goal

pub returns-clause-seat : goal.returns-clause-seat
returns-clause-seat c = (
  search rules,
  (search rules, search rules),
  joined_seen (view_of c.args.seat.now)
      (view_of c.args.other) _ c.join.ensures.view c.requires.seat.2 c.requires.other.2
      c.join.ensures.base (search rules),
)
