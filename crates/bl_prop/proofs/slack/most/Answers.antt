use Rattle.std.proofs.Common.{◌+ℤ◌, arith, FitsSigned}
use Rattle.std.specs.Int.{w128}
use Rattle.std.proofs.lemmas.Int.{ints, to_z-of_z}
use Rattle.bl_num.proofs.Quotients.{floor_range}
use Rattle.bl_prop.proofs.slack.most.Goals as goal

pub returns : goal.returns
returns c =
    let g : FitsSigned w128 c.args.coefficient = omega (arith, ints) in
    let s = c.ranges.slack in
    let w = c.ranges.coefficient in
    let u = c.ranges.low in
    let v : FitsSigned w128 c.args.low = omega (arith, ints) in
    let d : FitsSigned w128 c.floor_div.result = record { sfits = c.floor_div.type_inv } in
    let f = simp to_z-of_z at c.floor_div.ensures in
    let r = floor_range c.args.slack c.args.coefficient (omega (arith, ints)) c.requires.slack.low
    in
    let t : FitsSigned w128 (c.args.low +ℤ c.floor_div.result) = omega (arith, ints, f, r.0, r.1) in
    simp to_z-of_z (record { value = omega (arith, ints, f); above = omega (arith, ints, f, r.0) })
