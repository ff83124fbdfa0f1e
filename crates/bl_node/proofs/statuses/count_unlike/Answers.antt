use Rattle.std.proofs.Common.{arith}
use Rattle.bl_node.proofs.Restating.{counted-next, counted-all, at-most-one}
use Rattle.bl_node.proofs.statuses.count_unlike.Goals as goal

pub loop-j-preserved : goal.loop-j-preserved
loop-j-preserved c = record {
  few = let one = at-most-one _ c.unlike_count-count.result c.unlike_count-count.ensures in
      let f = c.loop-j.invariant.few in omega (arith, one, f);
  counted = rw c.unlike_count-count.ensures (counted-next c.args.old.now c.args.new.now c.loop-j.j
      c.loop-j.count _ _ c.requires (omega (arith, c.loop-j-test.true)) c.loop-j.invariant.counted);
}

pub returns : goal.returns
returns c = counted-all c.args.old.now c.args.new.now c.loop-j.j c.loop-j.count c.requires
    (omega (arith, c.loop-j-test.false)) c.loop-j.invariant.counted
