use Rattle.std.proofs.Common.{◌∙◌, sym, arith, ◌<◌, length}
use Rattle.bl_mps.proofs.Made.{whole_more}
use Rattle.bl_mps.proofs.finish.are_whole.Goals as goal

pub loop-j-preserved : goal.loop-j-preserved
loop-j-preserved c =
    let l : c.loop-j.j < length c.args.whole.now = omega (arith, c.loop-j-test.true, c.requires) in
    sym (whole_more c.args.ends.now c.args.whole.now c.loop-j.j _ _ c.loop-j-test.true l
    (sym c.is_whole.ensures ∙ c.if-not-is_whole.false)) ∙ c.loop-j.invariant
