use Rattle.std.proofs.Common.{rules, ◌≡◌, ◌∷◌, [], ap, ◌∙◌}
use Rattle.bl_turn.specs.declared.view.Slot.TheVariants.{Home}
use Rattle.bl_turn.proofs.Steps.{can_exchange}
use Rattle.bl_turn.proofs.turn.Turn.lock.Goals as goal

pub exchange-requires : goal.exchange-requires
exchange-requires g c = let took =
    c.if-try_or_wait.ensures.tried in let bare : c.loop.seat.place.me.1 ≡ [] = search rules in
    (search rules, can_exchange _ _ (ap (λ m. m.1) took.1 ∙ ap (λ cs. (0, Home took.0) ∷ cs) bare))
