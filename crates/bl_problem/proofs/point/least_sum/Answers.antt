use Rattle.std.proofs.Common.{◌≡◌, ◌^◌, ◌*ℤ◌, arith, pos, sym, ◌∙◌, ap, ℤ, FitsSigned}
use Rattle.std.proofs.lemmas.Int.{ints, to_z-of_z}
use Rattle.std.specs.Int.{int_min, w128}
use Rattle.std.proofs.lemmas.List.Elements.{All-get_or}
use Rattle.bl_num.specs.Exact.{at}
use Rattle.bl_num.proofs.SumLemmas.{at-map, sum_below-more}
use Rattle.bl_problem.specs.Sums.{IsWithin}
use Rattle.bl_problem.specs.Points.{costs_of}
use Rattle.bl_problem.specs.Program.{IsColumn}
use Rattle.bl_problem.specs.declared.problem.Column.{Column}
use Rattle.bl_problem.proofs.Limits.{limited_product}
use Rattle.bl_problem.proofs.Trivial.{min_within}
use Rattle.bl_problem.proofs.point.least_sum.Goals as goal

-- the lesser product that this turn adds: it is exact, and small
term : (c : goal.After-min-sum)
    → (c.min-sum.result ≡ int_min (c.index-columns-j.result.cost *ℤ at c.args.lows.now c.loop-j.j)
    (c.index-columns-j.result.cost *ℤ at c.args.highs.now c.loop-j.j))
    × IsWithin (10 ^ 24) c.min-sum.result
term c =
    let col : IsColumn c.index-columns-j.result = rw c.index-columns-j.is
    (All-get_or IsColumn c.args.columns.now c.loop-j.j c.index-columns-j.result
    c.loop-j-test.true c.requires.columns) in
    let low = limited_product c.product.result c.index-columns-j.result.cost
    (at c.args.lows.now c.loop-j.j) (rw (← c.index-columns-j.is) at c.product.ensures.value)
    col.cost (c.requires.low_near c.loop-j.j (pos 0) (omega (arith, c.requires.low_width))) in
    let high = limited_product c.product-in-loop-j.result c.index-columns-j.result.cost
    (at c.args.highs.now c.loop-j.j) (rw (← c.index-columns-j.is) at
    c.product-in-loop-j.ensures.value) col.cost
    (c.requires.high_near c.loop-j.j (pos 0) (omega (arith, c.requires.high_width))) in
    let f : FitsSigned w128 c.product.result = omega (arith, ints) in
    let g : FitsSigned w128 c.product-in-loop-j.result = omega (arith, ints) in
    let e = simp (to_z-of_z) at c.min-sum.ensures.value in
    let r = simp (low.0, high.0) at e in
    (r, rw e (min_within (10 ^ 24) c.product.result c.product-in-loop-j.result low.1 high.1))

pub overflow_add-sum : goal.overflow_add-sum
overflow_add-sum c =
    let p = term c in
    omega (arith, ints)

pub loop-j-preserved : goal.loop-j-preserved
loop-j-preserved c =
    let p = term c in
    let e = at-map (λ (d : Column). d.cost) c.args.columns.now c.loop-j.j c.index-columns-j.result
    c.loop-j-test.true ∙ ap (λ (d : Column). d.cost) (sym c.index-columns-j.is) in
    let q = ap (λ (z : ℤ). int_min (z *ℤ at c.args.lows.now c.loop-j.j)
    (z *ℤ at c.args.highs.now c.loop-j.j)) e in
    let m = sum_below-more c.loop-j.j (λ j. int_min
    (at (costs_of c.args.columns.now) j *ℤ at c.args.lows.now j)
    (at (costs_of c.args.columns.now) j *ℤ at c.args.highs.now j)) in
    record {
      exact = omega (arith, ints, m, q, p.0);
      within = omega (arith, ints);
    }
