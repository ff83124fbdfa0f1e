use Rattle.std.proofs.Common.{◌≡◌, ◌<◌, ◌^◌, ◌∙◌, ap, sym, subst, ℤ, ◌*ℤ◌, to_z, of_z, FitsSigned}
use Rattle.std.proofs.Common.{unsigned_abs, rules}
use Rattle.std.specs.Int.{w64, w128}
use Rattle.std.proofs.lemmas.Int.{to_z-of_z}
use Rattle.bl_factor.specs.Others.{narrow_number}
use Rattle.bl_factor.proofs.Narrow.{shifted, shift-small, product-small}
use Rattle.bl_factor.proofs.others.narrow_product.Goals as goal

pub returns-clause-value : goal.returns-clause-value
returns-clause-value c =
    let z = c.exact_product.result in
    let f : FitsSigned w128 z = search rules in
    let e : z ≡ c.args.a *ℤ c.args.b =
    c.exact_product.ensures.value
    ∙ ap (λ (y : ℤ). y *ℤ to_z w64 (of_z w64 c.args.b)) (to_z-of_z w64 c.args.a c.ranges.a)
    ∙ ap (λ (y : ℤ). c.args.a *ℤ y) (to_z-of_z w64 c.args.b c.ranges.b) in
    ap (λ (y : ℤ). record { raw = y }) (shifted z f)
    ∙ sym (product-small (narrow_number c.args.a) (narrow_number c.args.b) z e
    c.exact_product.ensures.small)

pub returns-clause-small : goal.returns-clause-small
returns-clause-small c =
    let z = c.exact_product.result in
    let f : FitsSigned w128 z = search rules in
    subst (λ (y : ℤ). unsigned_abs y < 2 ^ 126) (sym (shifted z f))
    (shift-small z c.exact_product.ensures.small)
