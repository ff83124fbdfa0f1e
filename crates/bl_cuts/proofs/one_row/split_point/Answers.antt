use Rattle.std.proofs.Common.{pos, arith, get_or, FitsSigned}
use Rattle.std.specs.Int.{w64}
use Rattle.std.proofs.lemmas.Int.{ints, to_z-of_z}
use Rattle.bl_fixed.specs.declared.Fixed.{Fixed}
use Rattle.bl_problem.specs.declared.problem.Column.{Column}
use Rattle.bl_cuts.proofs.Splitting.{Below, pushed}
use Rattle.bl_cuts.proofs.one_row.split_point.Goals as goal

pub loop-j-preserved : goal.loop-j-preserved
loop-j-preserved c =
    let d : Column = c.index-columns-j.result in
    let e : Fixed = record { raw = pos 0 } in
    let b : Below c.args.columns.now c.args.point.now c.loop-j.j c.loop-j.split =
    record {
      lows = c.loop-j.invariant.lows;
      exact = c.loop-j.invariant.exact;
      near =
          c.loop-j.invariant.near;
    } in
    let low = (c.requires.columns c.loop-j.j d c.loop-j-test.true).low in
    let f : FitsSigned w64 (get_or c.args.columns.now c.loop-j.j d).low =
    omega (arith, ints, low) in
    let p = rw (to_z-of_z w64 (get_or c.args.columns.now c.loop-j.j d).low f) at
    c.in_ok-push.ensures in
    let n = pushed c.args.columns.now c.args.point.now c.loop-j.j c.loop-j.split c.push.new.split
    d e c.loop-j-test.true c.requires.width c.requires.columns c.requires.near b p in
    record { lows = n.lows; exact = n.exact; near = n.near }
