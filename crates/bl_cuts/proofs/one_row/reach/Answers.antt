use Rattle.std.proofs.Common.{◌≡◌, ◌*◌, ◌^◌, ◌+ℤ◌, ◌-ℤ◌, ◌≤ℤ◌, pos, arith, refl, FitsSigned, All}
use Rattle.std.proofs.Common.{get_or, to_z, of_z}
use Rattle.std.specs.Int.{w64, w128}
use Rattle.std.proofs.lemmas.Int.{ints, to_z-of_z}
use Rattle.bl_num.specs.Exact.{at, ceil_of}
use Rattle.bl_fixed.specs.Fixed.{one}
use Rattle.bl_problem.specs.Sums.{IsWithin}
use Rattle.bl_problem.specs.declared.problem.Term.{Term}
use Rattle.bl_cuts.proofs.OneRow.{ceil_within}
use Rattle.bl_cuts.proofs.Reaching.{reach_holds, above_lows}
use Rattle.bl_cuts.proofs.one_row.reach.Goals as goal

ceiling : (c : goal.After-ceil_div) → (c.ceil_div.result
    ≡ ceil_of c.quotients_sum-parts.result one) × IsWithin (2 * 10 ^ 30) c.ceil_div.result
ceiling c =
    let p = c.quotients_sum-parts.ensures.near in
    let g : FitsSigned w128 c.quotients_sum-parts.result = omega (arith, ints, p) in
    let a : c.ceil_div.result ≡ ceil_of c.quotients_sum-parts.result one =
    rw (to_z-of_z w128 c.quotients_sum-parts.result g) at c.ceil_div.ensures in
    (a, rw a (ceil_within (2 * 10 ^ 30) c.quotients_sum-parts.result one (omega (arith, ints)) p))

pub overflow_add-result : goal.overflow_add-result
overflow_add-result c =
    let p = (ceiling c).1 in
    omega (arith, ints, p, c.quotients_sum-lows.ensures.near, c.quotients_sum-wholes.ensures.near)

pub returns : goal.returns
returns c = record {
  reach = λ x h.
      let s = ceiling c in
      let near = s.1 in
      let ln = c.quotients_sum-lows.ensures.near in
      let wn = c.quotients_sum-wholes.ensures.near in
      let zw = to_z-of_z w64 c.args.weight c.ranges.weight in
      let lows = rw (zw, c.as_slice.ensures) at c.quotients_sum-lows.ensures.exact in
      let wholes = rw (zw, c.as_slice-2.ensures) at c.quotients_sum-wholes.ensures.exact in
      let parts = rw (zw, c.as_slice-3.ensures) at c.quotients_sum-parts.ensures.exact in
      let above = c.if-not-is_above_lows.ensures refl in
      let positive : All (λ (t : Term). pos 0 ≤ℤ at c.args.split.now.parts t.column)
      c.args.terms.now =
      λ k d l. c.requires.near.positive (get_or c.args.terms.now k d).column (pos 0)
      (let col = (c.requires.terms.each k d l).column in omega
      (arith, col, c.requires.near.parts_width)) in
      let r = reach_holds c.args.split.now x c.args.terms.now c.args.weight
      c.quotients_sum-lows.result c.quotients_sum-wholes.result c.quotients_sum-parts.result h
      (above_lows c.args.split.now x c.args.terms.now h above positive) lows wholes parts in
      let e : to_z w128
      (of_z w128
      (to_z w128
      (of_z w128 (to_z w128 (of_z w128 c.quotients_sum-wholes.result) -ℤ to_z w128
      (of_z w128 c.quotients_sum-lows.result))) +ℤ to_z w128 (of_z w128 c.ceil_div.result)))
      ≡ (c.quotients_sum-wholes.result -ℤ c.quotients_sum-lows.result) +ℤ ceil_of
      c.quotients_sum-parts.result one =
      let q = s.0 in omega (arith, ints, near, ln, wn, q) in
      rw e r;
}
