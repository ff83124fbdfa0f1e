use Rattle.std.proofs.Common.{to_z, of_z, FitsSigned, ◌∙◌}
use Rattle.std.proofs.lemmas.Int.{to_z-of_z}
use Rattle.std.specs.Int.{w128}
use Rattle.bl_problem.specs.Points.{costs_of}
use Rattle.bl_bound.proofs.Greatest.{greatest-more}
use Rattle.bl_bound.proofs.units.greatest.Goals as goal

pub loop-row-preserved : goal.loop-row-preserved
loop-row-preserved c =
    let f : FitsSigned w128 c.raise-best.result = record { sfits = c.raise-best.type_inv } in
    let g : FitsSigned w128 c.raise-best-in-loop-row.result =
    record { sfits = c.raise-best-in-loop-row.type_inv } in
    let z = to_z-of_z w128 c.raise-best-in-loop-row.result g in
    z ∙ greatest-more (to_z w128 (of_z w128 c.args.base)) (costs_of c.args.columns.now)
    c.args.lows.now c.args.highs.now c.args.rows.now c.loop-row.row-index c.row-item.result
    c.row-item.result
    (to_z w128 c.loop-row.best-bits) c.raise-best.result c.raise-best-in-loop-row.result
    c.row_sum.result c.row_sum-in-loop-row.result
    c.loop-row-test.true c.row-item.is c.loop-row.invariant c.row_sum.ensures c.raise-best.ensures
    c.row_sum-in-loop-row.ensures
    (rw (to_z-of_z w128 c.raise-best.result f) at c.raise-best-in-loop-row.ensures)
