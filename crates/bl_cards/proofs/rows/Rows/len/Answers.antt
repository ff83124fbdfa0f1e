use Rattle.std.proofs.Common.{◌∙◌, sym, ap, length}
use Rattle.bl_cards.proofs.RowLines.{count_lines}
use Rattle.bl_cards.proofs.rows.Rows.len.Goals as goal

pub returns : goal.returns
returns c = c.len.ensures ∙ sym (count_lines c.self.inside.names c.self.inside.roles.items
    c.self.invariant.as_many) ∙ ap length c.self.view_is
