use Rattle.std.proofs.Common.{arith, sym}
use Rattle.bl_rows.proofs.PointBoxes.{two, pairs_of_two}
use Rattle.bl_rows.proofs.points.places.Goals as goal

pub choose-middle-requires-clause-splittable : goal.choose-middle-requires-clause-splittable
choose-middle-requires-clause-splittable c =
    let d = c.in_ok-desc.ensures in
    let w = pairs_of_two c.args.lows c.args.highs c.requires.points in
    record {
      whole = d.whole;
      few = rw d.lows (omega (arith, w.low_count));
      near_lows = rw d.lows c.requires.lows;
      near_highs = rw d.highs c.requires.highs;
      points = rw (d.lows, d.highs) (two c.args.lows c.args.highs c.requires.points);
      width = rw (d.lows, c.as_slice.ensures) (sym w.low_count);
    }

pub choose-nearest-requires-clause-splittable : goal.choose-nearest-requires-clause-splittable
choose-nearest-requires-clause-splittable c =
    let d = c.in_ok-desc.ensures in
    let w = pairs_of_two c.args.lows c.args.highs c.requires.points in
    record {
      whole = d.whole;
      few = rw d.lows (omega (arith, w.low_count));
      near_lows = rw d.lows c.requires.lows;
      near_highs = rw d.highs c.requires.highs;
      points = rw (d.lows, d.highs) (two c.args.lows c.args.highs c.requires.points);
      width = rw (d.lows, c.as_slice-2.ensures) (sym w.low_count);
    }
