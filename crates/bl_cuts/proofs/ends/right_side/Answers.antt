use Rattle.std.specs.Int.{w64}
use Rattle.std.proofs.lemmas.Int.{to_z-of_z}
use Rattle.bl_cuts.proofs.ends.right_side.Goals as goal

pub returns : goal.returns
returns c =
    let z = to_z-of_z w64 c.args.q c.ranges.q in
    let f = rw z at c.floored-below.ensures in
    let s = rw z at c.floors_sum.ensures in
    cc (f, s, c.difference.ensures, c.lows_sum.ensures, c.plus.ensures)
