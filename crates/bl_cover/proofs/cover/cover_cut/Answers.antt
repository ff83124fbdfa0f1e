use Rattle.std.proofs.Common.{◌≡◌, arith, Ok, sym, ◌∙◌, ap}
use Rattle.std.proofs.lemmas.Int.{ints}
use Rattle.bl_problem.specs.declared.problem.Row.{Row}
use Rattle.bl_cover.specs.Covers.{slack_below, row_at}
use Rattle.bl_cover.proofs.CoverLaw.{has_cover, cover-terms, cover-valid, row_is}
use Rattle.bl_cover.proofs.cover.cover_cut.Goals as goal
use Rattle.bl_cover.proofs.cover.cover_cut.Goals.{In_ok-terms}

-- the slack is that of the row
stated : (c : In_ok-terms) → slack_below c.args.problem.now.columns
    (row_at c.args.problem.now.rows c.args.row).terms
    (row_at c.args.problem.now.rows c.args.row).high c.args.columns.now ≡ Ok c.in_ok-slack.slack
stated c =
    let r = row_is c.args.problem.now.rows c.args.row c.index-rows-row.result
    (rw c.rows-rows.ensures.rows at c.index-rows-row.is) c.requires in
    let e = rw c.columns.ensures.columns at c.in_ok-slack.ensures.exact in
    sym (ap (λ (x : Row). slack_below c.args.problem.now.columns x.terms x.high
    c.args.columns.now) r) ∙ e

pub returns-clause-suits : goal.returns-clause-suits
returns-clause-suits c =
    let h = has_cover c.args.problem.now.columns (row_at c.args.problem.now.rows c.args.row).terms
    (row_at c.args.problem.now.rows c.args.row).high c.args.columns.now c.in_ok-slack.slack
    (stated c) in
    record {
      terms = rw c.in_ok-terms.ensures (cover-terms c.args.problem.now.columns
          (row_at c.args.problem.now.rows c.args.row).terms c.args.columns.now h.fits);
      right = omega (arith, ints, c.in_ok-slack.ensures.few_listed);
    }

pub returns-clause-holds : goal.returns-clause-holds
returns-clause-holds c = λ x f.
    let v = cover-valid c.args.problem.now c.args.row c.args.columns.now c.in_ok-slack.slack x
    c.rows-rows.ensures.program c.requires (stated c)
    (omega (arith, ints, c.if-slack-ge0.false)) f in
    rw c.in_ok-terms.ensures (omega (arith, ints, v, c.in_ok-slack.ensures.few_listed))
