use Rattle.std.proofs.Common.{rules}
use Rattle.bl_turn.proofs.Steps.{enters}
use Rattle.bl_turn.proofs.turn.Turn.try_once.Goals as goal

pub compare_exchange-requires : goal.compare_exchange-requires
compare_exchange-requires g c = (
  search rules,
  search rules,
  enters g.V.Told.by g.V.Told.told g.V.Told.base _ _ _ _
      (search rules),
)
