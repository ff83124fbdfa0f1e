use Rattle.std.proofs.Common.{◌≡◌, ◌<◌, rules, get_or, length}
use Rattle.bl_write.proofs.Cursor.{other_at}
use Rattle.bl_write.proofs.cells.coefficient_at.Goals as goal

pub returns-in_default : goal.returns-in_default
returns-in_default c =
    let t = c.in-Some.term.now in
    let at : t ≡ get_or c.args.terms.now c.args.cursor t = search rules in
    let lt : c.args.cursor < length c.args.terms.now = search rules in
    other_at c.args.terms.now c.args.cursor c.args.j t c.requires lt at c.if-term-j.false
