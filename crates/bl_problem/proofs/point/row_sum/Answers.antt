use Rattle.std.proofs.Common.{◌≡◌, ◌^◌, ◌*ℤ◌, ◌+ℤ◌, ℤ, arith, pos, length, get_or}
use Rattle.std.proofs.lemmas.Int.{ints}
use Rattle.std.proofs.lemmas.List.Sums.{fold_more}
use Rattle.bl_num.specs.Exact.{at}
use Rattle.bl_problem.specs.Sums.{IsWithin}
use Rattle.bl_problem.specs.declared.problem.Term.{Term}
use Rattle.bl_problem.proofs.Limits.{limited_product, length-rising}
use Rattle.bl_problem.proofs.point.row_sum.Goals as goal

-- the product that this turn adds: it is exact, and small
term : (c : goal.After-product-sum)
    → (c.product-sum.result
    ≡ (get_or c.args.terms.now c.loop-term.term-index (record {
      column = 0;
      coefficient =
          pos 0;
    })).coefficient *ℤ at c.args.point.now (get_or c.args.terms.now c.loop-term.term-index
    (record { column = 0; coefficient = pos 0 })).column) × IsWithin (10 ^ 24) c.product-sum.result
term c =
    let d : Term = record { column = 0; coefficient = pos 0 } in
    let t = c.requires.terms.each c.loop-term.term-index d c.loop-term-test.true in
    let near = c.requires.near (get_or c.args.terms.now c.loop-term.term-index d).column (pos 0)
    t.column in
    limited_product c.product-sum.result (get_or c.args.terms.now c.loop-term.term-index
    d).coefficient
    (at c.args.point.now (get_or c.args.terms.now c.loop-term.term-index d).column)
    c.product-sum.ensures.value t.coefficient near

pub overflow_add-sum : goal.overflow_add-sum
overflow_add-sum c =
    let p = term c in
    let n = length-rising (length c.args.point.now) c.args.terms.now c.requires.terms in
    omega (arith, ints)

pub loop-term-preserved : goal.loop-term-preserved
loop-term-preserved c =
    let p = term c in
    let n = length-rising (length c.args.point.now) c.args.terms.now c.requires.terms in
    let m = fold_more (λ (s : ℤ) (t : Term). s +ℤ t.coefficient *ℤ at c.args.point.now t.column)
    (pos 0) c.args.terms.now c.loop-term.term-index
    (record { column = 0; coefficient = pos 0 }) c.loop-term-test.true in
    record {
      exact = omega (arith, ints, m, p.0);
      within = omega (arith, ints);
    }
