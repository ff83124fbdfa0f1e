use Rattle.std.proofs.Common.{arith, FitsSigned, rules}
use Rattle.std.specs.Int.{w128}
use Rattle.std.proofs.lemmas.Int.{ints}
use Rattle.std.proofs.Math.IntN.{zero-*ℤ}
use Rattle.bl_problem.specs.Points.{value_of}
use Rattle.bl_bound.proofs.multipliers.empty.Goals as goal

pub returns-in-Some-clause-none : goal.returns-in-Some-clause-none
returns-in-Some-clause-none c = λ h x f.
    let t = c.in-Some.ensures.below x f in
    let z = zero-*ℤ (value_of c.args.problem.now x) in
    let g : FitsSigned w128 c.in-Some.sum = search rules in
    omega (arith, ints, h, t, z)
