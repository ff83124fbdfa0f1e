use Rattle.std.proofs.Common.{◌≡◌, arith, refl, length, sym, ◌∙◌}
use Rattle.std.proofs.lemmas.List.{length-map}
use Rattle.bl_problem.specs.Points.{lows_of, highs_of, InBox}
use Rattle.bl_problem.specs.declared.problem.Column.{Column}
use Rattle.bl_problem.proofs.Boxes.{box-width, box-near}
use Rattle.bl_problem.proofs.problem.Problem.is_feasible.Goals as goal

-- the point lies in the box, so it has one entry for each column
inside : (c : goal.After-rows) → InBox (lows_of c.args.self.now.columns)
    (highs_of c.args.self.now.columns) c.args.point.now
inside c = rw (← c.columns.ensures.columns) (c.if-is_in_box.ensures.0 refl)

wide : (c : goal.After-rows) → length c.args.point.now ≡ length c.args.self.now.columns
wide c =
    let w = box-width (lows_of c.args.self.now.columns) (highs_of c.args.self.now.columns)
    c.args.point.now (inside c) in
    sym w.lows ∙ length-map c.args.self.now.columns (λ (d : Column). d.low)

pub meets_rows-requires-clause-width : goal.meets_rows-requires-clause-width
meets_rows-requires-clause-width c = let w =
    wide c in omega (arith, w, c.columns.ensures.program.few_columns)

pub meets_rows-requires-clause-rows : goal.meets_rows-requires-clause-rows
meets_rows-requires-clause-rows c = rw (c.rows.ensures.rows, wide c) c.rows.ensures.program.rows

pub meets_rows-requires-clause-near : goal.meets_rows-requires-clause-near
meets_rows-requires-clause-near c =
    box-near c.args.self.now.columns c.args.point.now c.columns.ensures.program.columns (inside c)
