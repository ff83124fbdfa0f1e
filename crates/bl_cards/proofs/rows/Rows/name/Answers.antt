use Rattle.std.proofs.Common.{◌∙◌, sym, ap, length, arith, get_or, List, ◌<◌}
use Rattle.bl_cards.specs.Said.{RowLine}
use Rattle.bl_cards.specs.declared.kind.Role.TheVariants.{Objective}
use Rattle.bl_cards.proofs.RowLines.{line_at, count_lines}
use Rattle.bl_cards.proofs.rows.Rows.name.Goals as goal

pub name-requires : goal.name-requires
name-requires c = omega (
  arith,
  count_lines c.self.inside.names c.self.inside.roles.items
      c.self.invariant.as_many,
  ap length c.self.view_is,
  c.requires,
)

pub returns : goal.returns
returns c = λ d.
    let l : c.args.place < length c.self.inside.names =
    omega (
      arith,
      count_lines c.self.inside.names c.self.inside.roles.items
          c.self.invariant.as_many,
      ap length c.self.view_is,
      c.requires,
    ) in
    c.name.ensures ∙ sym (line_at c.self.inside.names c.self.inside.roles.items c.args.place d
    Objective c.self.invariant.as_many l).0
    ∙ ap (λ (rows : List RowLine). (get_or rows c.args.place d).name) c.self.view_is
