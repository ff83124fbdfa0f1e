use Rattle.std.proofs.Common.{◌<◌, ◌^◌, ◌∙◌, sym, ap, length, arith, FitsSigned, rules}
use Rattle.std.specs.Int.{w64}
use Rattle.std.proofs.lemmas.Int.{to_z-of_z}
use Rattle.bl_num.proofs.SumLemmas.{at-any}
use Rattle.bl_problem.specs.Rows.{coefficient_of}
use Rattle.bl_mps.proofs.Limits.{within_is}
use Rattle.bl_mps.proofs.Programs.{coefficient_within}
use Rattle.bl_mps.proofs.Made.{columns_more}
use Rattle.bl_mps.proofs.finish.make_columns.Goals as goal

pub column_at-requires-clause-cost : goal.column_at-requires-clause-cost
column_at-requires-clause-cost c =
    let costs = c.args.objective.now in
    let fits : FitsSigned w64 c.index.result.now = search rules in
    let wide : c.loop-j.j < length c.in_ok-costs.costs.items =
    omega (arith, c.in_ok-costs.ensures.width, c.loop-j-test.true) in
    let cost = to_z-of_z w64 c.index.result.now fits ∙ c.index.ensures
    ∙ at-any c.in_ok-costs.costs.items c.loop-j.j c.index.result.now wide
    ∙ c.in_ok-costs.ensures.numbers c.loop-j.j c.loop-j-test.true in
    rw cost (within_is (10 ^ 15) (coefficient_of costs c.loop-j.j)
    (coefficient_within costs c.loop-j.j c.requires.within))

pub loop-j-preserved : goal.loop-j-preserved
loop-j-preserved c =
    let names = c.args.reader.now.columns.names in
    let l : c.loop-j.j < length names = omega (
      arith,
      c.loop-j-test.true,
      c.len-count.ensures,
      ap length c.names.ensures,
      ap
          (λ g. length g.names) c.columns.ensures,
    ) in
    let fits : FitsSigned w64 c.index.result.now = search rules in
    let wide : c.loop-j.j < length c.in_ok-costs.costs.items =
    omega (arith, c.in_ok-costs.ensures.width, c.loop-j-test.true) in
    let cost = to_z-of_z w64 c.index.result.now fits ∙ c.index.ensures
    ∙ at-any c.in_ok-costs.costs.items c.loop-j.j c.index.result.now wide
    ∙ c.in_ok-costs.ensures.numbers c.loop-j.j c.loop-j-test.true in
    let is = c.in_ok-column_at.ensures c.args.objective.now cost in
    c.in_ok-push.ensures.items ∙ rw (c.loop-j.invariant, is)
    (sym (columns_more c.args.reader.now c.args.objective.now names c.loop-j.j l))
