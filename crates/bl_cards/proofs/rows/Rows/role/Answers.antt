use Rattle.std.proofs.Common.{ap, ◌∙◌, sym, arith, get_or, Some}
use Rattle.std.specs.Prelude.{option_map}
use Rattle.bl_cards.specs.Lines.{role_of}
use Rattle.bl_cards.specs.declared.kind.Role.TheVariants.{Objective}
use Rattle.bl_cards.proofs.RowLines.{role_found}
use Rattle.bl_cards.proofs.Places.{place_within}
use Rattle.bl_cards.proofs.rows.Rows.role.Goals as goal

pub index-requires : goal.index-requires
index-requires c =
    omega (
      arith,
      place_within c.self.inside.names c.args.name.now c.in_ok-place.place
          (sym c.find.ensures.place ∙ c.in_ok-place.was),
      c.self.invariant.as_many,
    )

pub returns-in_err-place : goal.returns-in_err-place
returns-in_err-place c =
    let roles = c.self.inside.roles.items in
    c.from_residual.ensures ∙ sym (ap (λ rows. role_of rows c.args.name.now) (sym c.self.view_is)
    ∙ role_found c.self.inside.names roles c.args.name.now Objective c.self.invariant.as_many
    ∙ ap (option_map (λ i. get_or roles i Objective))
    (sym c.find.ensures.place ∙ c.in_err-place.was))

pub returns : goal.returns
returns c =
    let roles = c.self.inside.roles.items in
    let d = c.index.result.now in
    ap (λ r. Some r) c.index.ensures
    ∙ sym (ap (λ rows. role_of rows c.args.name.now) (sym c.self.view_is)
    ∙ role_found c.self.inside.names roles c.args.name.now d c.self.invariant.as_many
    ∙ ap (option_map (λ i. get_or roles i d)) (sym c.find.ensures.place ∙ c.in_ok-place.was))
