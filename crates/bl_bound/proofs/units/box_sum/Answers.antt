use Rattle.std.proofs.Common.{◌≡◌, ◌^◌, arith, pos, sym, ◌∙◌, ap, ℤ}
use Rattle.std.proofs.lemmas.Int.{ints}
use Rattle.std.proofs.lemmas.List.Elements.{All-get_or}
use Rattle.bl_num.specs.Exact.{at}
use Rattle.bl_num.proofs.SumLemmas.{at-map, sum_below-more}
use Rattle.bl_problem.specs.Sums.{IsWithin}
use Rattle.bl_problem.specs.Points.{costs_of}
use Rattle.bl_problem.specs.Program.{IsColumn}
use Rattle.bl_problem.specs.declared.problem.Column.{Column}
use Rattle.bl_bound.specs.Units.{least_at}
use Rattle.bl_bound.proofs.UnitSums.{least_is}
use Rattle.bl_bound.proofs.units.box_sum.Goals as goal

-- the part that this turn adds: it is exact, and small
term : (c : goal.After-least-sum) → (c.least-sum.result
    ≡ least_at c.args.lows.now c.args.highs.now c.loop-j.j c.index-columns-j.result.cost)
    × IsWithin (10 ^ 24) c.least-sum.result
term c =
    let col : IsColumn c.index-columns-j.result = rw c.index-columns-j.is
    (All-get_or IsColumn c.args.columns.now c.loop-j.j c.index-columns-j.result
    c.loop-j-test.true c.requires.bounded.each) in
    let low = All-get_or (IsWithin (10 ^ 9)) c.args.lows.now c.loop-j.j (pos 0) (omega arith)
    c.requires.bounded.near_lows in
    let high = All-get_or (IsWithin (10 ^ 9)) c.args.highs.now c.loop-j.j (pos 0) (omega arith)
    c.requires.bounded.near_highs in
    least_is c.least-sum.result c.index-columns-j.result.cost (at c.args.lows.now c.loop-j.j)
    (at c.args.highs.now c.loop-j.j) (10 ^ 15)
    (rw (← c.index-columns-j.is) at c.least-sum.ensures) (omega arith) col.cost low high

pub overflow_add-sum : goal.overflow_add-sum
overflow_add-sum c =
    let p = term c in
    omega (arith, ints)

pub loop-j-preserved : goal.loop-j-preserved
loop-j-preserved c =
    let p = term c in
    let e = at-map (λ (d : Column). d.cost) c.args.columns.now c.loop-j.j c.index-columns-j.result
    c.loop-j-test.true ∙ ap (λ (d : Column). d.cost) (sym c.index-columns-j.is) in
    let q = ap (λ (z : ℤ). least_at c.args.lows.now c.args.highs.now c.loop-j.j z) e in
    let m = sum_below-more c.loop-j.j
    (λ j. least_at c.args.lows.now c.args.highs.now j (at (costs_of c.args.columns.now) j)) in
    record {
      exact = omega (arith, ints, m, q, p.0);
      within = omega (arith, ints);
    }
