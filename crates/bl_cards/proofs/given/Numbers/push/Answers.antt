use Rattle.std.proofs.Common.{◌≡◌, ◌++◌, ◌∷◌, [], ap, ◌∙◌, arith, length}
use Rattle.std.proofs.lemmas.List.{length-append}
use Rattle.bl_cards.specs.Lines.{has_given}
use Rattle.bl_cards.proofs.GivenLines.{no_given, given_push, one_given}
use Rattle.bl_cards.proofs.given.Numbers.push.Goals as goal

-- the numbers, with the new one
numbers : (c : goal.After-push_reserved) → c.push_reserved.new.self.items
    ≡ c.self.inside.numbers.items ++ c.args.number ∷ []
numbers c = c.push_reserved.ensures.items
    ∙ ap (λ ns. ns ++ c.args.number ∷ []) c.reserve.ensures.items

pub add-requires : goal.add-requires
add-requires c = no_given c.self.inside.rows c.self.inside.numbers.items c.args.row.now
    c.self.invariant (ap (λ gs. has_given gs c.args.row.now) c.self.view_is ∙ c.requires)

pub invariant_of-self-2 : goal.invariant_of-self-2
invariant_of-self-2 c =
    let rows = ap length c.in_ok-add.ensures.ok
    ∙ length-append c.self.inside.rows (c.args.row.now ∷ []) in
    let count = ap length (numbers c) ∙ length-append c.self.inside.numbers.items
    (c.args.number ∷ []) in
    omega (arith, rows, count, c.self.invariant)

pub returns-clause-ok : goal.returns-clause-ok
returns-clause-ok c =
    given_push c.self.inside.rows _ c.self.inside.numbers.items _ c.args.row.now c.args.number
    c.self.invariant c.in_ok-add.ensures.ok (numbers c)
    ∙ ap (λ gs. gs ++ one_given c.args.row.now c.args.number ∷ []) c.self.view_is
