use Rattle.std.proofs.Common.{◌∙◌, sym, ap, subst, List, [], get_or}
use Rattle.bl_cards.specs.Said.{RowLine}
use Rattle.bl_cards.specs.declared.kind.Role.TheVariants.{Extra}
use Rattle.bl_cards.specs.Lines.{is_limited}
use Rattle.bl_mps.specs.Meaning.{or_zero, IsRowRead}
use Rattle.bl_mps.proofs.Programs.{said_is, row_read}
use Rattle.bl_mps.proofs.finish.row_at.Goals as goal

abbrev no_line : RowLine
no_line = record { name = []; role = Extra }

pub make_row-requires-clause-name : goal.make_row-requires-clause-name
make_row-requires-clause-name c = λ e.
    let is = c.name-name.ensures no_line
    ∙ ap (λ (rows : List RowLine). (get_or rows c.args.place no_line).name) c.rows.ensures in
    (c.requires.coherent.lines.names c.args.place no_line c.requires.place).name.some (sym is ∙ e)

pub make_row-requires-clause-limited : goal.make_row-requires-clause-limited
make_row-requires-clause-limited c = ap is_limited
    (c.role_at.ensures no_line
    ∙ ap (λ (rows : List RowLine). (get_or rows c.args.place no_line).role) c.rows-2.ensures)
    ∙ c.requires.limited no_line

pub make_row-requires-clause-read : goal.make_row-requires-clause-read
make_row-requires-clause-read c =
    let s = c.args.reader.now in
    let line = get_or s.rows c.args.place no_line in
    let is = c.name-name.ensures no_line
    ∙ ap (λ (rows : List RowLine). (get_or rows c.args.place no_line).name) c.rows.ensures in
    let said = said_is s line.name c.name-name.result.now c.args.entries.now
    c.or_zero-right.result c.number-range.result c.rhs.result.now c.ranges-2.result.now
    (c.requires.entries no_line) is c.rhs.ensures c.ranges-2.ensures
    (c.or_zero-right.ensures ∙ ap or_zero c.number.ensures) c.number-range.ensures in
    subst IsRowRead (sym said) (row_read s line.name c.requires.coherent)
