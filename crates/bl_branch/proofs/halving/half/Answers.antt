use Rattle.std.proofs.Common.{arith, rules, FitsSigned, length}
use Rattle.std.specs.Int.{w64}
use Rattle.std.proofs.lemmas.Int.{ints, to_z-of_z}
use Rattle.bl_num.specs.Exact.{at}
use Rattle.bl_branch.specs.Widest.{IsFirstWidest, IsMiddle}
use Rattle.bl_branch.proofs.halving.half.Goals as goal

pub returns-in-None : goal.returns-in-None
returns-in-None c =
    let n = rw (c.as_slice-lows.ensures, c.as_slice-highs.ensures) at c.in-None.ensures in
    let h = n c.requires.points.column c.requires.points.column_in in
    absurd (omega (arith, ints, h, c.requires.points.apart))

pub returns-in-Some : goal.returns-in-Some
returns-in-Some c =
    let w : IsFirstWidest c.args.desc.now.lows c.args.desc.now.highs (length c.args.desc.now.lows)
    c.in-Some.column = rw (c.as_slice-lows.ensures, c.as_slice-highs.ensures) at
    c.in-Some.ensures in
    let f : FitsSigned w64 (at c.as_slice-lows.result.now c.in-Some.column) = search rules in
    let g : FitsSigned w64 (at c.as_slice-highs.result.now c.in-Some.column) = search rules in
    let m : IsMiddle (at c.args.desc.now.lows c.in-Some.column)
    (at c.args.desc.now.highs c.in-Some.column) c.middle.result =
    rw (c.as_slice-lows.ensures, c.as_slice-highs.ensures) at
    (simp to_z-of_z at c.middle.ensures) in
    let e = to_z-of_z w64 c.middle.result (record { sfits = c.middle.type_inv }) in
    record {
      half = rw e (record { widest = w; middle = m });
      splits = rw e (record {
        column = w.inside;
        low =
            omega (arith, ints, m.not_above, m.not_below, w.wide);
        high =
            omega (arith, ints, m.not_above, m.not_below, w.wide);
      });
    }
