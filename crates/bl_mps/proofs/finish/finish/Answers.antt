use Rattle.std.proofs.Common.{Result, Err, ◌≡◌, ◌∙◌, sym, ap, subst, List, Option, Bool, true}
use Rattle.std.proofs.Common.{◌<◌, length, map, [], get_or, arith}
use Rattle.std.proofs.lemmas.List.{get_or-map, length-map}
use Rattle.bl_problem.specs.Program.{Program}
use Rattle.bl_mps.specs.declared.entries.Entry.{Entry}
use Rattle.bl_cards.specs.declared.kind.Role.TheVariants.{Extra}
use Rattle.bl_mps.specs.declared.ends.Ends.{Ends}
use Rattle.bl_cards.specs.declared.kind.What.{What}
use Rattle.bl_cards.specs.Said.{RowLine, Grid}
use Rattle.bl_cards.specs.Lines.{has_objective, objective_in}
use Rattle.bl_mps.specs.Meaning.{entries_of, all_ends, are_whole, are_bounded, objective_of}
use Rattle.bl_mps.specs.Meaning.{objective_within, program_of, keeps_limits}
use Rattle.bl_cards.specs.Views.{Gives}
use Rattle.bl_mps.proofs.Made.{objective_wide, wide_in, finished_is, some_true}
use Rattle.bl_mps.proofs.finish.finish.Goals as goal

abbrev no_line : RowLine
no_line = record { name = []; role = Extra }

pub objective_at-requires-clause-entries : goal.objective_at-requires-clause-entries
objective_at-requires-clause-entries c =
    let cells = c.args.reader.now.columns.cells in
    let rows = c.args.reader.now.rows in
    let l : c.in-Some.place < length rows =
    omega (arith, c.in-Some.ensures.place, ap length c.rows.ensures) in
    let n = length-map rows (λ (r : RowLine). r.name) in
    let e = get_or-map (entries_of cells) (map (λ (r : RowLine). r.name) rows) c.in-Some.place []
    c.index.result.now (omega (arith, n, l)) in
    let f = get_or-map (λ (r : RowLine). r.name) rows c.in-Some.place no_line [] l in
    let name = subst (λ (rs : List RowLine). (get_or rs c.in-Some.place no_line).name
    ≡ objective_in rs) c.rows.ensures (c.in-Some.ensures.name no_line) in
    c.as_slice.ensures ∙ c.index.ensures
    ∙ ap (λ (es : List (List Entry)). get_or es c.in-Some.place c.index.result.now)
    c.in_ok-entries.ensures ∙ e ∙ ap (entries_of cells) (f ∙ name)

pub returns : goal.returns
returns c =
    let s = c.args.reader.now in
    let a : has_objective s.rows ≡ true = some_true c.objective.result (has_objective s.rows)
    c.in-Some.place (c.objective.ensures.test ∙ ap has_objective c.rows.ensures) c.in-Some.is in
    let ends = c.deref.ensures.value ∙ c.in_ok-ends.ensures in
    let ends2 = c.deref-2.ensures.value ∙ c.in_ok-ends.ensures in
    let whole = c.whole.ensures.whole ∙ ap (λ (g : Grid). g.whole) c.columns.ensures in
    let b : are_whole (all_ends s) s.columns.whole ≡ true =
    sym (c.are_whole.ensures ∙ ap (λ (es : List (Option Ends)). are_whole es c.whole.result.now)
    ends ∙ ap (λ (w : List Bool). are_whole (all_ends s) w) whole) ∙ c.if-not-are_whole.false in
    let d : are_bounded (all_ends s) ≡ true = sym (c.are_bounded.ensures ∙ ap are_bounded ends2)
    ∙ c.if-not-are_bounded.false in
    subst (λ (r : Result Program What). Gives {A = Program} (Err c.in-Err.fault) r)
    (sym (finished_is s a b d)) (wide_in c.in-Err.fault objective_within (objective_of s)
    keeps_limits (program_of s) (objective_wide s c.requires) c.in-Err.ensures)
