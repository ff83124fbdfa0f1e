use Rattle.std.proofs.Common.{◌∙◌, sym, ap, map, List}
use Rattle.bl_cards.specs.Said.{RowLine}
use Rattle.bl_cards.proofs.RowLines.{names_are}
use Rattle.bl_cards.proofs.rows.Rows.names.Goals as goal

pub returns : goal.returns
returns c = sym (names_are c.self.inside.names c.self.inside.roles.items c.self.invariant.as_many)
    ∙ ap (λ (rows : List RowLine). map (λ (r : RowLine). r.name) rows) c.self.view_is
