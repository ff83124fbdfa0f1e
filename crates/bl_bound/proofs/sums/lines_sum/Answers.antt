use Rattle.std.proofs.Common.{arith, FitsSigned, rules}
use Rattle.std.specs.Int.{w64}
use Rattle.std.proofs.lemmas.Int.{to_z-of_z}
use Rattle.bl_num.specs.Exact.{at}
use Rattle.bl_num.proofs.CheckedLemmas.{checked_sum-start, checked_sum-more}
use Rattle.bl_bound.proofs.sums.lines_sum.Goals as goal

pub loop-i-init : goal.loop-i-init
loop-i-init c = checked_sum-start _ _

pub loop-i-preserved : goal.loop-i-preserved
loop-i-preserved c =
    let f : FitsSigned w64 (at c.args.y.now c.loop-i.i) = search rules in
    grind (arith, to_z-of_z, checked_sum-more)
