use Rattle.std.proofs.Common.{◌∙◌, sym, ap, length, arith, get_or, List, ◌<◌}
use Rattle.bl_cards.specs.Said.{RowLine}
use Rattle.bl_cards.proofs.RowLines.{line_at, count_lines}
use Rattle.bl_cards.proofs.rows.Rows.role_at.Goals as goal

pub index-requires : goal.index-requires
index-requires c = omega (
  arith,
  count_lines c.self.inside.names c.self.inside.roles.items
      c.self.invariant.as_many,
  ap length c.self.view_is,
  c.self.invariant.as_many,
  c.requires,
)

pub returns : goal.returns
returns c = λ d.
    let l : c.args.place < length c.self.inside.names =
    omega (
      arith,
      count_lines c.self.inside.names c.self.inside.roles.items
          c.self.invariant.as_many,
      ap length c.self.view_is,
      c.requires,
    ) in
    c.index.ensures ∙ sym (line_at c.self.inside.names c.self.inside.roles.items c.args.place d
    c.index.result.now c.self.invariant.as_many l).1
    ∙ ap (λ (rows : List RowLine). (get_or rows c.args.place d).role) c.self.view_is
