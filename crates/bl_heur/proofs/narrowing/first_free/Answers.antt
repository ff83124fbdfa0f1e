use Rattle.std.proofs.Common.{arith, rules, sym, FitsSigned, length, ◌<ℤ◌}
use Rattle.std.specs.Int.{w64}
use Rattle.std.proofs.lemmas.Int.{ints}
use Rattle.bl_num.specs.Exact.{at}
use Rattle.bl_heur.proofs.Free.{first_free-found}
use Rattle.bl_heur.proofs.narrowing.first_free.Goals as goal

pub returns-then-lows-j : goal.returns-then-lows-j
returns-then-lows-j c =
    let f : FitsSigned w64 (at c.args.lows.now c.loop-j.j) = search rules in
    let g : FitsSigned w64 (at c.args.highs.now c.loop-j.j) = search rules in
    let w : at c.args.lows.now c.loop-j.j <ℤ at c.args.highs.now c.loop-j.j = omega (arith, ints) in
    sym (first_free-found (length c.args.lows.now) c.loop-j.j c.args.lows.now c.args.highs.now
    c.loop-j-test.true c.loop-j.invariant w)
