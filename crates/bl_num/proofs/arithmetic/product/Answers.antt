use Rattle.std.proofs.Common.{◌^◌, ◌*ℤ◌, arith, FitsSigned}
use Rattle.std.specs.Int.{w128}
use Rattle.std.proofs.lemmas.Int.{ints, to_z-of_z}
use Rattle.bl_num.proofs.SumLemmas.{product_within}
use Rattle.bl_num.proofs.arithmetic.product.Goals as goal

pub returns-clause-small : goal.returns-clause-small
returns-clause-small c =
    let f = c.ranges.a in
    let g = c.ranges.b in
    let fa : FitsSigned w128 c.args.a = omega (arith, ints) in
    let fb : FitsSigned w128 c.args.b = omega (arith, ints) in
    let p = product_within c.args.a c.args.b (2 ^ 63) (2 ^ 63) (omega (arith, ints))
    (omega (arith, ints)) in
    let fp : FitsSigned w128 (c.args.a *ℤ c.args.b) = omega (arith, ints, p) in
    simp to_z-of_z p
