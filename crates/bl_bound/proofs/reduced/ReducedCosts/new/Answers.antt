use Rattle.std.specs.Int.{w64}
use Rattle.std.proofs.lemmas.Int.{to_z-of_z}
use Rattle.bl_bound.proofs.Meets.{bound-below}
use Rattle.bl_bound.proofs.reduced.ReducedCosts.new.Goals as goal

pub returns-clause-below : goal.returns-clause-below
returns-clause-below c =
    let z = to_z-of_z w64 c.args.d c.ranges.d in
    rw z (bound-below c.args.problem.now c.args.desc.now c.args.d c.reduce-sum.result
    c.requires.counted (rw z at c.reduce-sum.ensures.below))
