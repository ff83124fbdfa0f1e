use Rattle.std.proofs.Common.{arith}
use Rattle.bl_node.proofs.Assembly.{sound-shut}
use Rattle.bl_node.proofs.node.finish.Goals as goal

pub choose-place-requires-clause-splittable : goal.choose-place-requires-clause-splittable
choose-place-requires-clause-splittable g c = record {
  whole = c.requires.narrows.whole;
  few = omega (arith, c.requires.node.few_columns, c.requires.narrows.low_width);
  near_lows = c.requires.narrows.describes.near_lows;
  near_highs = c.requires.narrows.describes.near_highs;
  points = rw (c.as_slice.ensures, c.as_slice-2.ensures) at
      (c.has_two.ensures.two c.if-has_two.true);
  width = c.requires.width;
}

pub returns-clause-sound : goal.returns-clause-sound
returns-clause-sound g c = λ cutoff s.
    let t = c.in_ok-test_last.ensures.stands cutoff s in
    record {
      sound = rw (c.shut.ensures.found, c.shut.ensures.low, c.shut.ensures.next)
          (sound-shut c.args.problem.now c.args.parent.now cutoff c.test_last.new.work t
          (c.in_ok-test_last.ensures.none cutoff s));
      better = rw c.shut.ensures.found t.better;
    }
