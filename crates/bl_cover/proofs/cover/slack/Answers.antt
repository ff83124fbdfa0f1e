use Rattle.std.proofs.Common.{◌^◌, arith}
use Rattle.std.proofs.lemmas.Int.{ints}
use Rattle.bl_problem.specs.Sums.{IsWithin}
use Rattle.bl_cover.proofs.CoverLaw.{high-near, slack_is}
use Rattle.bl_cover.proofs.cover.slack.Goals as goal

near : (c : goal.After-least_sum) → IsWithin (10 ^ 24) c.in-Some.high
near c = high-near c.args.row.now.low c.args.row.now.high c.in-Some.high c.requires.row.ends
    c.in-Some.is

pub returns-in-Ok-clause-exact : goal.returns-in-Ok-clause-exact
returns-in-Ok-clause-exact c =
    let h = near c in
    let t = c.as_slice-terms.ensures in
    slack_is c.args.columns.now c.args.row.now.terms c.args.row.now.high c.args.listed.now
    c.in-Some.high c.least_sum.result c.in-Ok.listed _ c.in-Some.is
    (rw t at c.in-Ok.ensures.fits) (rw t at c.least_sum.ensures.exact)
    (rw t at c.in-Ok.ensures.exact)
    (omega (arith, ints, h, c.least_sum.ensures.near, c.in-Ok.ensures.near))

pub returns-in-Ok-clause-near : goal.returns-in-Ok-clause-near
returns-in-Ok-clause-near c =
    let h = near c in
    omega (arith, ints, h, c.least_sum.ensures.near, c.in-Ok.ensures.near)
