use Rattle.std.proofs.Common.{rules}
use Rattle.bl_turn.proofs.Joining.{splits}
use Rattle.bl_turn.proofs.turn.Turn.split.Goals as goal

pub split_seat-place-requires : goal.split_seat-place-requires
split_seat-place-requires g c = (
  search rules,
  search rules,
  splits g.V.Told.by g.V.Told.told g.V.Told.base _ _ _
      (search rules) c.requires.seat.1.0,
)
