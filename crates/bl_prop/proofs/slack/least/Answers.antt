use Rattle.std.proofs.Common.{◌≡◌, ◌-ℤ◌, neg_ℤ, pos, arith, FitsSigned, ℤ, ap, ◌∙◌}
use Rattle.std.specs.Int.{w128}
use Rattle.std.proofs.lemmas.Int.{ints, to_z-of_z}
use Rattle.bl_num.specs.Exact.{floor_of}
use Rattle.bl_num.proofs.Quotients.{floor_range}
use Rattle.bl_prop.proofs.slack.least.Goals as goal

pub returns : goal.returns
returns c =
    let s = c.ranges.slack in
    let w = c.ranges.coefficient in
    let u = c.ranges.high in
    let g : FitsSigned w128 c.args.coefficient = omega (arith, ints) in
    let n : FitsSigned w128 (pos 0 -ℤ c.args.coefficient) = omega (arith, ints) in
    let v : FitsSigned w128 c.args.high = omega (arith, ints) in
    let d : FitsSigned w128 c.floor_div.result = record { sfits = c.floor_div.type_inv } in
    let f = simp to_z-of_z at c.floor_div.ensures in
    let z : pos 0 -ℤ c.args.coefficient ≡ neg_ℤ c.args.coefficient = omega (arith, ints) in
    let e = f ∙ ap (λ (q : ℤ). floor_of c.args.slack q) z in
    let r = floor_range c.args.slack (neg_ℤ c.args.coefficient) (omega (arith, ints))
    c.requires.slack.low in
    let t : FitsSigned w128 (c.args.high -ℤ c.floor_div.result) =
    omega (arith, ints, e, r.0, r.1) in
    simp to_z-of_z (record { value = omega (arith, ints, e); below = omega (arith, ints, e, r.0) })
