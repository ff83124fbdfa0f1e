use Rattle.std.proofs.Common.{subst, Some}
use Rattle.bl_problem.specs.declared.problem.Row.{Row}
use Rattle.bl_cover.specs.Greedy.{IsCoverOf}
use Rattle.bl_cover.proofs.CoverLaw.{row_is}
use Rattle.bl_cover.proofs.GreedyLaw.{accepted}
use Rattle.bl_cover.proofs.search.find_cover.Goals as goal

pub returns-in-Some-clause-accepted : goal.returns-in-Some-clause-accepted
returns-in-Some-clause-accepted c =
    let l = rw c.rows-rows.ensures.rows at c.loop-row-test.true in
    let r = row_is c.args.problem.now.rows c.loop-row.row c.index-rows-row.result
    (rw c.rows-rows.ensures.rows at c.index-rows-row.is) l in
    let g = rw (c.columns-columns.ensures.columns, c.in-Some.is) at c.in_ok-columns.ensures in
    let h = subst (λ (row : Row). IsCoverOf c.args.problem.now.columns c.args.point.now row
    (Some c.in-Some.columns)) r g in (
      l,
      accepted c.args.problem.now c.args.point.now c.loop-row.row c.in-Some.columns
          c.rows-rows.ensures.program l h,
    )
