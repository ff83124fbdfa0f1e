use Rattle.std.proofs.Common.{arith}
use Rattle.std.specs.Int.{w128}
use Rattle.std.proofs.lemmas.Int.{ints, to_z-of_z}
use Rattle.bl_num.proofs.Quotients.{ceil-whole, ceil-more, ceil_fits}
use Rattle.bl_num.proofs.arithmetic.ceil_div.Goals as goal

pub returns-then-rem_euclid-eq0 : goal.returns-then-rem_euclid-eq0
returns-then-rem_euclid-eq0 c =
    let f = c.ranges.a in
    let g = c.ranges.b in
    let r = simp to_z-of_z at c.rem_euclid.ensures.value in
    let e = ceil-whole c.args.a c.args.b c.requires (omega (arith, ints)) in
    let q = simp to_z-of_z at c.div_euclid-below.ensures in
    omega (arith, ints)

pub returns-else-rem_euclid-eq0 : goal.returns-else-rem_euclid-eq0
returns-else-rem_euclid-eq0 c =
    let f = c.ranges.a in
    let g = c.ranges.b in
    let r = simp to_z-of_z at c.rem_euclid.ensures.value in
    let e = ceil-more c.args.a c.args.b c.requires (λ z. omega (arith, ints)) in
    let h = ceil_fits w128 c.args.a c.args.b c.requires f in
    let q = simp to_z-of_z at c.div_euclid-below.ensures in
    omega (arith, ints)
