use Rattle.std.proofs.Common.{◌∙◌, sym}
use Rattle.bl_cards.specs.Views.{card_of}
use Rattle.bl_mps.proofs.Lists.{ends_unknown, ends_put}
use Rattle.bl_mps.proofs.ends.put_card.Goals as goal

pub returns-in_default : goal.returns-in_default
returns-in_default c = λ cards e. e ∙ ends_unknown c.args.names.now cards
    (card_of c.args.card.now) (sym c.find.ensures.place ∙ c.in_default.is)

pub returns-then-place-len : goal.returns-then-place-len
returns-then-place-len c = λ cards e.
    ends_put c.args.names.now cards (card_of c.args.card.now) c.in-Some.place
    c.args.ends.now.items c.index.result.now c.with_card.result c.find.ensures.differ
    (sym c.find.ensures.place ∙ c.in-Some.is) e
    (rw (← c.index.ensures) c.with_card.ensures)
