use Rattle.std.proofs.Common.{arith, FitsSigned, rules}
use Rattle.std.specs.Int.{w128}
use Rattle.std.proofs.lemmas.Int.{ints, to_z-of_z}
use Rattle.std.proofs.Math.IntN.{*ℤ_comm}
use Rattle.bl_num.proofs.Quotients.{ceil_le}
use Rattle.bl_problem.specs.Points.{value_of}
use Rattle.bl_bound.proofs.multipliers.bound.Goals as goal

pub returns-clause-below : goal.returns-clause-below
returns-clause-below c = λ x f.
    let g = c.ranges.d in
    let l = c.in_ok-sum.ensures in
    let t = simp to_z-of_z at (l.below x f) in
    let k = ceil_le (value_of c.args.problem.now x) c.in_ok-sum.sum c.args.d c.requires.counted
    (let e = *ℤ_comm c.args.d (value_of c.args.problem.now x) in omega (arith, ints, e, t)) in
    let s : FitsSigned w128 c.in_ok-sum.sum = search rules in
    let h : FitsSigned w128 c.args.d = omega (arith, ints) in
    let r = simp to_z-of_z at c.ceil_div.ensures in
    let v : FitsSigned w128 c.ceil_div.result = record { sfits = c.ceil_div.type_inv } in
    simp to_z-of_z (omega (arith, ints, k, r))
