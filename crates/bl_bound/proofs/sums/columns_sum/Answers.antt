use Rattle.std.proofs.Common.{sym, FitsSigned, rules}
use Rattle.std.specs.Int.{w64}
use Rattle.std.proofs.lemmas.Int.{to_z-of_z}
use Rattle.bl_num.specs.Exact.{at}
use Rattle.bl_num.proofs.CheckedLemmas.{checked_sum-start, plus_step}
use Rattle.bl_bound.proofs.sums.columns_sum.Goals as goal

pub loop-j-init : goal.loop-j-init
loop-j-init c = checked_sum-start _ _

pub loop-j-preserved : goal.loop-j-preserved
loop-j-preserved c =
    let f : FitsSigned w64 (at c.args.lows.now c.loop-j.j) = search rules in
    let g : FitsSigned w64 (at c.args.highs.now c.loop-j.j) = search rules in
    let q = simp to_z-of_z at c.column_end.ensures in
    plus_step _ _ c.loop-j.j _ _ _ c.loop-j.invariant (sym q) c.plus-sum.ensures
