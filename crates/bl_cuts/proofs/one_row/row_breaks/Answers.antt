use Rattle.std.proofs.Common.{◌≡◌, ◌*◌, ◌^◌, ◌+ℤ◌, ℤ, arith, ◌∙◌, ap, FitsSigned, to_z, of_z}
use Rattle.std.specs.Prelude.{int_lt}
use Rattle.std.specs.Int.{w64, w128}
use Rattle.std.proofs.lemmas.Int.{ints, to_z-of_z}
use Rattle.bl_num.specs.Exact.{floor_of, ceil_of}
use Rattle.bl_fixed.specs.Fixed.{one}
use Rattle.bl_problem.specs.Sums.{IsWithin}
use Rattle.bl_cuts.proofs.OneRow.{floor_within, ceil_within}
use Rattle.bl_cuts.proofs.Separating.{row_breaks-split}
use Rattle.bl_cuts.proofs.one_row.row_breaks.Goals as goal

-- what the sums are
pub record Sums (over q parts above floor : ℤ) : Type 0 where
  pub is_floor : floor ≡ floor_of over q
  pub is_ceiling : above ≡ ceil_of parts one
  pub floor_near : IsWithin (3 * 10 ^ 30) floor
  pub above_near : IsWithin (2 * 10 ^ 30) above

sums : (c : goal.After-ceil_div) → Sums c.args.over c.args.q c.quotients_sum-parts.result
    c.ceil_div.result c.floor_div.result
sums c =
    let p = c.quotients_sum-parts.ensures.near in
    let h = c.requires.counted in
    let z = to_z-of_z w64 c.args.q c.ranges.q in
    let g : FitsSigned w128 c.quotients_sum-parts.result = omega (arith, ints, p) in
    let a : c.ceil_div.result ≡ ceil_of c.quotients_sum-parts.result one =
    rw (to_z-of_z w128 c.quotients_sum-parts.result g) at c.ceil_div.ensures in
    let f : FitsSigned w128 c.args.q = omega (arith, ints, c.ranges.q) in
    let b : c.floor_div.result ≡ floor_of c.args.over c.args.q =
    rw (z, to_z-of_z w128 c.args.q f, to_z-of_z w128 c.args.over c.ranges.over) at
    c.floor_div.ensures in
    record {
      is_floor = b;
      is_ceiling = a;
      floor_near = rw b (floor_within (3 * 10 ^ 30) c.args.over c.args.q h c.requires.over);
      above_near =
          rw a (ceil_within (2 * 10 ^ 30) c.quotients_sum-parts.result one (omega (arith, ints)) p);
    }

pub overflow_add-result : goal.overflow_add-result
overflow_add-result c =
    let w = c.quotients_sum-wholes.ensures.near in
    let p = (sums c).above_near in
    omega (arith, ints, w, p)

pub returns : goal.returns
returns c = λ x h.
    let s = sums c in
    let zw = to_z-of_z w64 c.args.weight c.ranges.weight in
    let zq = to_z-of_z w64 c.args.q c.ranges.q in
    let lows = rw (zw, zq, c.as_slice.ensures) at c.quotients_sum.ensures.exact in
    let wholes = rw (zw, zq, c.as_slice-2.ensures) at c.quotients_sum-wholes.ensures.exact in
    let parts = rw (zw, zq, c.as_slice-3.ensures) at c.quotients_sum-parts.ensures.exact in
    let ln = c.quotients_sum.ensures.near in
    let wn = c.quotients_sum-wholes.ensures.near in
    let fn = s.floor_near in
    let an = s.above_near in
    let r : ℤ = c.floor_div.result +ℤ c.quotients_sum.result in
    let e = row_breaks-split c.args.split.now x c.args.terms.now c.args.weight c.args.over
    c.args.q (c.floor_div.result +ℤ c.quotients_sum.result) c.quotients_sum-wholes.result
    c.quotients_sum-parts.result h
    (ap (λ (z : ℤ). z +ℤ c.quotients_sum.result) s.is_floor
    ∙ ap (λ (z : ℤ). floor_of c.args.over c.args.q +ℤ z) lows) wholes parts in
    let left : to_z w128
    (of_z w128 (to_z w128 (of_z w128 c.floor_div.result) +ℤ to_z w128
    (of_z w128 c.quotients_sum.result))) ≡ c.floor_div.result +ℤ c.quotients_sum.result =
    omega (arith, ints, ln, fn) in
    let right : to_z w128
    (of_z w128 (to_z w128 (of_z w128 c.quotients_sum-wholes.result) +ℤ to_z w128
    (of_z w128 c.ceil_div.result))) ≡ c.quotients_sum-wholes.result +ℤ c.ceil_div.result =
    omega (arith, ints, wn, an) in
    rw (left, right)
    (ap (λ (z : ℤ). int_lt (c.floor_div.result +ℤ c.quotients_sum.result)
    (c.quotients_sum-wholes.result +ℤ z)) s.is_ceiling ∙ e)
