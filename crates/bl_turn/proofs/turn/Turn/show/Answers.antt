use Rattle.std.proofs.Common.{rules, ap, ◌∙◌}
use Rattle.bl_turn.proofs.Steps.{low_of_low, can_exchange, after_exchange, shows, shown}
use Rattle.bl_turn.proofs.turn.Turn.show.Goals as goal

pub exchange-requires : goal.exchange-requires
exchange-requires g c = (search rules, can_exchange _ _ c.requires.turn.1)

pub fetch_add-found-requires : goal.fetch_add-found-requires
fetch_add-found-requires g c = let list = c.requires.list in let now =
    after_exchange _ _ _ _ c.requires.turn.1 c.exchange.ensures.3 in (
      search rules,
      search rules,
      shows g.V.Told.by g.V.Told.told g.V.Told.base _ _ _ _ _ _ list.0
          _ now c.requires.turn.0 (ap g.V.Told.told c.of.ensures ∙ list.1) list.2 list.3,
    )

pub returns-clause-turn : goal.returns-clause-turn
returns-clause-turn g c = let now = after_exchange _ _ _ _ c.requires.turn.1 c.exchange.ensures.3 in
    let t = shown g.V.Told.by g.V.Told.told g.V.Told.base c.args.self.now.board.shared.key.value _
    _ _ _ _ _ now c.of.ensures c.fetch_add-found.ensures.2 in (t.0, t.1)

pub returns-clause-history : goal.returns-clause-history
returns-clause-history g c = let now =
    after_exchange _ _ _ _ c.requires.turn.1 c.exchange.ensures.3 in
    (shown g.V.Told.by g.V.Told.told g.V.Told.base c.args.self.now.board.shared.key.value _ _ _ _
    _ _ now c.of.ensures c.fetch_add-found.ensures.2).2

pub returns-clause-count : goal.returns-clause-count
returns-clause-count g c = let now = after_exchange _ _ _ _ c.requires.turn.1 c.exchange.ensures.3
    in
    low_of_low _ _ (shown g.V.Told.by g.V.Told.told g.V.Told.base
    c.args.self.now.board.shared.key.value _ _ _ _ _ _ now c.of.ensures
    c.fetch_add-found.ensures.2).3
