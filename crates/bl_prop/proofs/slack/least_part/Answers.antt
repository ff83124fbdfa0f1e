use Rattle.std.proofs.Common.{arith, FitsSigned}
use Rattle.std.specs.Int.{w128}
use Rattle.std.proofs.lemmas.Int.{ints, clamps, to_z-of_z}
use Rattle.bl_problem.proofs.Limits.{limited_product}
use Rattle.bl_prop.proofs.slack.least_part.Goals as goal

pub returns-clause-small : goal.returns-clause-small
returns-clause-small c =
    let p = limited_product c.product.result c.turned-coefficient.result c.args.low
    c.product.ensures.value c.turned-coefficient.ensures.small c.requires.low in
    let q = limited_product c.product-2.result c.turned-coefficient.result c.args.high
    c.product-2.ensures.value c.turned-coefficient.ensures.small c.requires.high in
    let f : FitsSigned w128 c.product.result = record { sfits = c.product.type_inv } in
    let g : FitsSigned w128 c.product-2.result = record { sfits = c.product-2.type_inv } in
    let h : FitsSigned w128 c.min.result = record { sfits = c.min.type_inv } in
    let m = simp to_z-of_z at c.min.ensures.value in
    simp to_z-of_z (omega (arith, ints, clamps, m, p.1, q.1))
