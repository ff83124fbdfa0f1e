use Rattle.std.proofs.Common.{◌≡◌, ◌^◌, ◌*ℤ◌, arith, pos, sym, ◌∙◌, ap, ℤ}
use Rattle.std.proofs.lemmas.Int.{ints}
use Rattle.std.proofs.lemmas.List.Elements.{All-get_or}
use Rattle.bl_num.specs.Exact.{at}
use Rattle.bl_num.proofs.SumLemmas.{at-map, sum_below-more}
use Rattle.bl_problem.specs.Sums.{IsWithin}
use Rattle.bl_problem.specs.Points.{costs_of}
use Rattle.bl_problem.specs.Program.{IsColumn}
use Rattle.bl_problem.specs.declared.problem.Column.{Column}
use Rattle.bl_problem.proofs.Limits.{limited_product}
use Rattle.bl_problem.proofs.point.value_sum.Goals as goal

-- the product that this turn adds: it is exact, and small
term : (c : goal.After-product-sum) → (c.product-sum.result
    ≡ c.index-columns-j.result.cost *ℤ at c.args.point.now c.loop-j.j)
    × IsWithin (10 ^ 24) c.product-sum.result
term c =
    let col : IsColumn c.index-columns-j.result = rw c.index-columns-j.is
    (All-get_or IsColumn c.args.columns.now c.loop-j.j c.index-columns-j.result
    c.loop-j-test.true c.requires.columns) in
    let near = All-get_or (IsWithin (10 ^ 9)) c.args.point.now c.loop-j.j (pos 0) (omega arith)
    c.requires.near in
    limited_product c.product-sum.result c.index-columns-j.result.cost
    (at c.args.point.now c.loop-j.j)
    (rw (← c.index-columns-j.is) at c.product-sum.ensures.value) col.cost near

pub overflow_add-sum : goal.overflow_add-sum
overflow_add-sum c =
    let p = term c in
    omega (arith, ints)

pub loop-j-preserved : goal.loop-j-preserved
loop-j-preserved c =
    let p = term c in
    let e = at-map (λ (d : Column). d.cost) c.args.columns.now c.loop-j.j c.index-columns-j.result
    c.loop-j-test.true ∙ ap (λ (d : Column). d.cost) (sym c.index-columns-j.is) in
    let q = ap (λ (z : ℤ). z *ℤ at c.args.point.now c.loop-j.j) e in
    let m = sum_below-more c.loop-j.j
    (λ j. at (costs_of c.args.columns.now) j *ℤ at c.args.point.now j) in
    record {
      exact = omega (arith, ints, m, q, p.0);
      within = omega (arith, ints);
    }
