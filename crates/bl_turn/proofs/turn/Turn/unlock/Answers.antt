use Rattle.std.proofs.Common.{rules}
use Rattle.bl_turn.proofs.Steps.{can_exchange, after_exchange, leaves}
use Rattle.bl_turn.proofs.turn.Turn.unlock.Goals as goal

pub exchange-requires : goal.exchange-requires
exchange-requires g c = (search rules, can_exchange _ _ c.requires.turn.1.1)

pub store-requires : goal.store-requires
store-requires g c = let now = after_exchange _ _ _ _ c.requires.turn.1.1 c.exchange.ensures.3 in (
  search rules,
  search rules,
  leaves g.V.Told.by g.V.Told.told g.V.Told.base _ _ _ _ _ _ now
      c.requires.turn.0 c.requires.same c.requires.base,
)
