use Rattle.bl_turn.proofs.Closing.{closed_with, closed_as}
use Rattle.bl_turn.proofs.turn.Turn.close.Goals as goal

pub taken-requires : goal.taken-requires
taken-requires g c = let t = closed_with g.V.Told.by g.V.Told.told g.V.Told.base
    c.args.self.board.shared.key.value _ _ _ _ _ c.close_with-closed.ensures.values.2
    c.requires.first c.requires.seat.1.0 c.requires.all c.take-slot.ensures.value in (t.0, t.1)

pub returns : goal.returns
returns g c = let t = closed_as g.V.Told.by g.V.Told.told g.V.Told.base
    c.args.self.board.shared.key.value _ _ _ _ _ _ c.close_with-closed.ensures.values.2
    c.requires.first c.requires.seat.1.0 c.requires.all c.take-slot.ensures.value c.taken.ensures in
    record { base = t.based; seen = t.list; own = t.own; ended = t.ended; every = t.every }
