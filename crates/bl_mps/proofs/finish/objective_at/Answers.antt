use Rattle.std.proofs.Common.{◌≡◌, ◌∙◌, sym, ap, subst, List, [], get_or, None, ℕ}
use Rattle.bl_cards.specs.Said.{RowLine}
use Rattle.bl_mps.specs.declared.finish.ScaledObjective.{ScaledObjective}
use Rattle.bl_cards.specs.declared.kind.Role.TheVariants.{Extra}
use Rattle.bl_mps.specs.Meaning.{or_zero, limited, objective_within, objective_in_units}
use Rattle.bl_mps.specs.Meaning.{objective_of, IsRowRead}
use Rattle.bl_cards.specs.Lines.{objective_in}
use Rattle.bl_cards.specs.Views.{Gives}
use Rattle.bl_mps.specs.Views.{row_said}
use Rattle.bl_mps.proofs.Programs.{objective_said_is, objective_read}
use Rattle.bl_mps.proofs.finish.objective_at.Goals as goal

abbrev no_line : RowLine
no_line = record { name = []; role = Extra }

pub make_objective-requires-clause-name : goal.make_objective-requires-clause-name
make_objective-requires-clause-name c = λ e.
    let is = c.name-name.ensures no_line
    ∙ ap (λ (rows : List RowLine). (get_or rows c.args.place no_line).name) c.rows.ensures in
    (c.requires.coherent.lines.names c.args.place no_line c.requires.place).name.some (sym is ∙ e)

pub make_objective-requires-clause-read : goal.make_objective-requires-clause-read
make_objective-requires-clause-read c =
    let s = c.args.reader.now in
    let is = c.name-name.ensures no_line ∙ ap
    (λ (rows : List RowLine). (get_or rows c.args.place no_line).name) c.rows.ensures
    ∙ c.requires.name no_line in
    let said = objective_said_is s c.name-name.result.now c.args.entries.now
    c.or_zero-right.result c.rhs.result.now c.requires.entries is c.rhs.ensures
    (c.or_zero-right.ensures ∙ ap or_zero c.number.ensures) in
    subst IsRowRead (sym said) (objective_read s c.requires.coherent)

pub returns : goal.returns
returns c =
    let s = c.args.reader.now in
    let is = c.name-name.ensures no_line ∙ ap
    (λ (rows : List RowLine). (get_or rows c.args.place no_line).name) c.rows.ensures
    ∙ c.requires.name no_line in
    let said = objective_said_is s c.name-name.result.now c.args.entries.now
    c.or_zero-right.result c.rhs.result.now c.requires.entries is c.rhs.ensures
    (c.or_zero-right.ensures ∙ ap or_zero c.number.ensures) in
    let all : objective_in_units c.name-name.result.now
    (row_said c.args.entries.now c.or_zero-right.result None) ≡ objective_of s =
    ap (λ (n : List ℕ). objective_in_units n
    (row_said c.args.entries.now c.or_zero-right.result None)) is
    ∙ ap (objective_in_units (objective_in s.rows)) said in
    subst (λ (o : ScaledObjective). Gives c.make_objective.result (limited objective_within o))
    all c.make_objective.ensures
