use Rattle.std.proofs.Common.{◌≡◌, pos, negsuc, Option, Some, None, ◌∙◌, ap}
use Rattle.bl_problem.specs.declared.problem.Row.{Row}
use Rattle.bl_problem.specs.Points.{own_lows}
use Rattle.bl_cuts.specs.OneRow.{first_by_over}
use Rattle.bl_cuts.specs.Separations.{row_at, or_else, first_at_end, is_broken}
use Rattle.bl_cuts.specs.declared.separation.Candidate.{Candidate}
use Rattle.bl_cuts.proofs.Separating.{high_first, low_first, row_is, if_ok}
use Rattle.bl_cuts.proofs.separation.first_in_row.Goals as goal

pub returns-in-Some-clause-exact : goal.returns-in-Some-clause-exact
returns-in-Some-clause-exact c = λ cuts x h.
    let l = c.requires.row in
    let r = row_is c.args.problem.now.rows c.args.row c.index-rows-row.result
    (rw c.rows-rows.ensures.rows at c.index-rows-row.is) l in
    let e = rw (c.as_slice-terms.ensures, c.requires.lows, c.in-Some.is) at
    (c.in_ok-candidate.ensures.exact x h) in
    let g = high_first c.args.problem.now cuts x c.args.row c.rows-rows.ensures.program l in
    let broken = is_broken c.args.problem.now cuts x in
    let f : Some c.in-Some.candidate ≡ first_at_end broken c.args.row (pos 1)
    (row_at c.args.problem.now.rows c.args.row).high
    (row_at c.args.problem.now.rows c.args.row).terms =
    e ∙ ap (λ (k : Row). first_by_over (own_lows c.args.problem.now) x c.args.row (pos 1) k.high
    k.terms) r ∙ g in
    ap (λ (o : Option Candidate). or_else o (first_at_end broken c.args.row (negsuc 0)
    (row_at c.args.problem.now.rows c.args.row).low
    (row_at c.args.problem.now.rows c.args.row).terms)) f

pub returns-in-None-clause-exact : goal.returns-in-None-clause-exact
returns-in-None-clause-exact c =
    if_ok _ _ c.first_at_end-in-None.result
    (λ first q cuts x h.
    let l = c.requires.row in
    let r = row_is c.args.problem.now.rows c.args.row c.index-rows-row.result
    (rw c.rows-rows.ensures.rows at c.index-rows-row.is) l in
    let e = rw (c.as_slice-terms.ensures, c.requires.lows, c.in-None.is) at
    (c.in_ok-candidate.ensures.exact x h) in
    let f = rw (c.as_slice-terms.ensures, c.requires.lows) at (q x h) in
    let g = high_first c.args.problem.now cuts x c.args.row c.rows-rows.ensures.program l in
    let k = low_first c.args.problem.now cuts x c.args.row c.rows-rows.ensures.program l in
    let broken = is_broken c.args.problem.now cuts x in
    let high : None ≡ first_at_end broken c.args.row (pos 1)
    (row_at c.args.problem.now.rows c.args.row).high
    (row_at c.args.problem.now.rows c.args.row).terms =
    e ∙ ap (λ (y : Row). first_by_over (own_lows c.args.problem.now) x c.args.row (pos 1) y.high
    y.terms) r ∙ g in
    let low = f ∙ ap (λ (y : Row). first_by_over (own_lows c.args.problem.now) x c.args.row
    (negsuc 0) y.low y.terms) r ∙ k in
    low ∙ ap (λ (o : Option Candidate). or_else o (first_at_end broken c.args.row (negsuc 0)
    (row_at c.args.problem.now.rows c.args.row).low
    (row_at c.args.problem.now.rows c.args.row).terms)) high)
    c.first_at_end-in-None.ensures.exact
