use Rattle.std.proofs.Common.{◌∙◌, ◌^◌, ap, FitsSigned, arith, rules, subst, ℤ, pos, neg_ℤ, ◌≤ℤ◌}
use Rattle.std.proofs.Common.{◌<ℤ◌, to_z, of_z}
use Rattle.std.specs.Int.{w64, w128}
use Rattle.bl_factor.specs.Others.{narrow_number}
use Rattle.bl_fixed.specs.Fixed.{saturated_difference, saturated_product}
use Rattle.std.proofs.lemmas.Int.{ints, to_z-of_z}
use Rattle.bl_factor.proofs.Narrow.{difference-small, size-between}
use Rattle.bl_factor.proofs.others.less_narrow.Goals as goal

pub returns-then-number-lt-MODERATE : goal.returns-then-number-lt-MODERATE
returns-then-number-lt-MODERATE c =
    let x = c.args.number in
    let y = c.narrow_product-product.result in
    let f : FitsSigned w128 x.raw = search rules in
    let g : FitsSigned w128 y.raw = search rules in
    let e = to_z-of_z w128 x.raw f in
    let h : neg_ℤ (pos (2 ^ 126)) ≤ℤ x.raw =
    subst (λ (z : ℤ). neg_ℤ (pos (2 ^ 126)) ≤ℤ z) e (omega (arith, ints, c.if-number.true)) in
    let k : x.raw <ℤ pos (2 ^ 126) =
    subst (λ (z : ℤ). z <ℤ pos (2 ^ 126)) e
    (omega (arith, ints, c.if-number-lt-MODERATE.true)) in
    difference-small x y f g (size-between x.raw h k) c.narrow_product-product.ensures.small
    ∙ ap (saturated_difference x) (c.narrow_product-product.ensures.value
    ∙ ap (λ (a : ℤ). saturated_product (narrow_number a)
    (narrow_number (to_z w64 (of_z w64 c.args.b)))) (to_z-of_z w64 c.args.a c.ranges.a)
    ∙ ap (λ (b : ℤ). saturated_product (narrow_number c.args.a) (narrow_number b))
    (to_z-of_z w64 c.args.b c.ranges.b))
