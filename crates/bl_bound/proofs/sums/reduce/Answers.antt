use Rattle.std.proofs.Common.{◌≡◌, length, arith, FitsSigned, rules}
use Rattle.std.specs.Int.{w64, w128}
use Rattle.std.proofs.lemmas.Int.{ints, to_z-of_z}
use Rattle.bl_bound.specs.Bounds.{multiplier_sum_of}
use Rattle.bl_bound.proofs.Exact.{moved-terms, whole_sum, reduced}
use Rattle.bl_bound.proofs.Meets.{below-if_some}
use Rattle.bl_bound.proofs.sums.reduce.Goals as goal
use Rattle.bl_bound.proofs.sums.reduce.Goals.{After-lines_sum}

pub take_lines-requires-clause-terms : goal.take_lines-requires-clause-terms
take_lines-requires-clause-terms c =
    moved-terms c.args.problem.now c.args.desc.now c.rows-rows.result.now
    c.as_slice-cuts.result.now (length c.put_costs.new.sums)
    c.columns-columns.ensures.program c.requires.suits c.rows-rows.ensures.rows
    c.as_slice-cuts.ensures (search rules)

-- the call's result is the stated sum
exact : (c : After-lines_sum) → c.lines_sum.result
    ≡ multiplier_sum_of c.args.problem.now c.args.desc.now c.args.y.now c.args.d
exact c =
    let g = c.ranges.d in
    let z = to_z-of_z w64 c.args.d c.ranges.d in
    let h : FitsSigned w128 c.args.d = omega (arith, ints) in
    let o : FitsSigned w128 c.offset.result = record { sfits = c.offset.type_inv } in
    let s = simp to_z-of_z at c.times-start.ensures in
    whole_sum c.args.problem.now c.args.desc.now c.columns-columns.result.now
    c.rows-rows.result.now c.as_slice-cuts.result.now c.as_slice.result.now
    c.as_slice-2.result.now c.offset.result
    c.args.y.now c.args.d c.put_costs.new.sums c.take_lines.new.sums c.times-start.result
    c.columns_sum-sum.result c.lines_sum.result
    (record {
      columns_are = c.columns-columns.ensures.columns;
      rows_are = c.rows-rows.ensures.rows;
      cuts_are = c.as_slice-cuts.ensures;
      lows_are = c.as_slice.ensures;
      highs_are = c.as_slice-2.ensures;
      offset_is = c.offset.ensures;
    })
    (search rules) c.take_lines.ensures.length c.requires.multipliers
    (λ j l. rw z at (c.put_costs.ensures.costs j l)) c.take_lines.ensures.sums s
    c.columns_sum-sum.ensures c.lines_sum.ensures

pub returns-clause-exact : goal.returns-clause-exact
returns-clause-exact c = exact c

pub returns-clause-below : goal.returns-clause-below
returns-clause-below c =
    below-if_some c.args.problem.now c.args.desc.now c.args.y.now c.args.d c.lines_sum.result
    c.columns-columns.ensures.program c.requires.suits (exact c)

pub returns-clause-reduced : goal.returns-clause-reduced
returns-clause-reduced c =
    let z = to_z-of_z w64 c.args.d c.ranges.d in
    reduced c.args.problem.now c.args.desc.now c.columns-columns.result.now c.rows-rows.result.now
    c.as_slice-cuts.result.now c.args.y.now c.args.d c.put_costs.new.sums c.take_lines.new.sums
    c.columns-columns.ensures.columns c.rows-rows.ensures.rows c.as_slice-cuts.ensures
    (search rules) c.take_lines.ensures.length c.requires.multipliers
    (λ j l. rw z at (c.put_costs.ensures.costs j l)) c.take_lines.ensures.sums
