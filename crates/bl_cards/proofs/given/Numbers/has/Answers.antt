use Rattle.std.proofs.Common.{◌∙◌, sym, ap}
use Rattle.std.specs.Prelude.{is_some}
use Rattle.bl_cards.specs.Lines.{has_given}
use Rattle.bl_cards.proofs.GivenLines.{given_is}
use Rattle.bl_cards.proofs.given.Numbers.has.Goals as goal

pub returns : goal.returns
returns c =
    c.is_some.ensures ∙ ap is_some c.find.ensures.place
    ∙ sym (given_is c.self.inside.rows c.self.inside.numbers.items c.args.row.now
    c.self.invariant)
    ∙ ap (λ gs. has_given gs c.args.row.now) c.self.view_is
