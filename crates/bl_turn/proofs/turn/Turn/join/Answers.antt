use Rattle.std.proofs.Common.{rules, sym, ap, ◌∙◌, subst}
use Rattle.bl_turn.specs.Accounts.{after_join}
use Rattle.bl_turn.specs.Plays.{Settled}
use Rattle.bl_turn.proofs.Steps.{looks}
use Rattle.bl_turn.proofs.Joining.{joins, others_joined}
use Rattle.bl_turn.proofs.turn.Turn.join.Goals as goal

pub load-requires : goal.load-requires
load-requires g c = (
  search rules,
  search rules,
  looks g.V.Told.by g.V.Told.told g.V.Told.base _ _
      _ _ (search rules),
)

pub join_seat-requires : goal.join_seat-requires
join_seat-requires g c = (
  search rules,
  search rules,
  search rules,
  search rules,
  joins g.V.Told.by g.V.Told.told
      g.V.Told.base _ _ _ _ _ (search rules) (search rules) (search rules),
)

pub load-requires-2 : goal.load-requires-2
load-requires-2 g c = (
  search rules,
  search rules,
  looks g.V.Told.by g.V.Told.told g.V.Told.base _
      _ _ _ (search rules),
)

pub returns-clause-others : goal.returns-clause-others
returns-clause-others g c = let by = g.V.Told.by in let a = c.args.seat.now.place.me.0 in let b =
    c.args.other.place.me.0 in
    let now = ap (λ m. m.0) c.join_seat.ensures.2 ∙ ap (λ m. after_join m.0 b) c.load.ensures.2.0 in
    let t = others_joined by g.V.Told.told g.V.Told.base c.args.self.now.board.shared.key.value a
    b c.load.ensures.2.1 (subst (Settled by) now c.load-2.ensures.2.1) c.requires.first in
    (t.0, ap (λ m. m.0.view.seen) c.load-2.ensures.2.0 ∙ (ap (λ x. x.view.seen) now ∙ t.1), t.2)

pub returns-clause-base : goal.returns-clause-base
returns-clause-base g c = let by = g.V.Told.by in let now = ap (λ m. m.0) c.join_seat.ensures.2
    ∙ ap (λ m. after_join m.0 c.args.other.place.me.0) c.load.ensures.2.0 in
    sym (subst (Settled by) now c.load-2.ensures.2.1).same_base
