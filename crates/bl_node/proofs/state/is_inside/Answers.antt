use Rattle.std.proofs.Common.{arith}
use Rattle.bl_problem.proofs.Boxes.{box-from}
use Rattle.bl_node.proofs.state.is_inside.Goals as goal

pub returns : goal.returns
returns c = λ e.
    box-from c.args.lows.now c.args.highs.now c.args.point.now
    (record {
      lows = omega (arith, c.if-point-lows.false);
      highs =
          omega (arith, c.if-point-lows.false, c.requires);
    })
    (λ k l. c.loop-j.invariant k (omega (arith, l, c.if-point-lows.false, c.loop-j.auto.j-end)))
