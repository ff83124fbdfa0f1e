use Rattle.std.proofs.Common.{◌∙◌, sym, ap, get_or, pos, Some}
use Rattle.std.specs.Prelude.{option_map}
use Rattle.bl_num.specs.declared.Decimal.{Decimal}
use Rattle.bl_cards.specs.Lines.{given_for}
use Rattle.bl_cards.proofs.GivenLines.{found}
use Rattle.bl_cards.proofs.given.Numbers.number.Goals as goal

pub returns-in_err-place : goal.returns-in_err-place
returns-in_err-place c =
    let d : Decimal = record { mantissa = pos 0; places = 0 } in
    c.from_residual.ensures ∙ sym (ap (λ gs. given_for gs c.args.row.now) (sym c.self.view_is)
    ∙ found c.self.inside.rows c.self.inside.numbers.items c.args.row.now d c.self.invariant
    ∙ ap (option_map (λ i. get_or c.self.inside.numbers.items i d))
    (sym c.find.ensures.place ∙ c.in_err-place.was))

pub returns : goal.returns
returns c =
    let d = c.index.result.now in
    ap (λ z. Some z) c.index.ensures
    ∙ sym (ap (λ gs. given_for gs c.args.row.now) (sym c.self.view_is) ∙ found c.self.inside.rows
    c.self.inside.numbers.items c.args.row.now d c.self.invariant
    ∙ ap (option_map (λ i. get_or c.self.inside.numbers.items i d))
    (sym c.find.ensures.place ∙ c.in_ok-place.was))
