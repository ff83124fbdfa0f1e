use Rattle.std.proofs.Common.{◌≡◌, ◌*◌, ◌^◌, ◌*ℤ◌, ◌+ℤ◌, ℤ, arith, pos, length, get_or, ◌∙◌, ap}
use Rattle.std.proofs.Common.{FitsSigned}
use Rattle.std.specs.Int.{w64}
use Rattle.std.proofs.lemmas.Int.{ints, to_z-of_z}
use Rattle.std.proofs.lemmas.List.Sums.{fold_more}
use Rattle.bl_num.specs.Exact.{at}
use Rattle.bl_num.proofs.SumLemmas.{product_within}
use Rattle.bl_problem.specs.Sums.{IsWithin}
use Rattle.bl_problem.specs.declared.problem.Term.{Term}
use Rattle.bl_problem.proofs.Limits.{length-rising}
use Rattle.bl_cuts.specs.OneRow.{quotient_of}
use Rattle.bl_cuts.proofs.one_row.quotients_sum.Goals as goal

-- the product that this turn adds: it is exact, and small
term : (c : goal.After-product-sum) → (c.product-sum.result ≡ quotient_of c.args.weight c.args.q
    (get_or c.args.terms.now c.loop-term.term-index (record { column = 0; coefficient = pos 0 }))
    *ℤ at c.args.entries.now (get_or c.args.terms.now c.loop-term.term-index
    (record { column = 0; coefficient = pos 0 })).column)
    × IsWithin (10 ^ 15 * 2 ^ 40) c.product-sum.result
term c =
    let d : Term = record { column = 0; coefficient = pos 0 } in
    let t : Term = get_or c.args.terms.now c.loop-term.term-index d in
    let i = c.requires.terms.each c.loop-term.term-index d c.loop-term-test.true in
    let near : IsWithin (2 ^ 40) (at c.args.entries.now t.column) =
    c.requires.near t.column (pos 0) i.column in
    let small : IsWithin (10 ^ 15) c.quotient.result = c.quotient.ensures.near in
    let f : FitsSigned w64 (at c.args.entries.now t.column) = omega (arith, ints, near) in
    let g : FitsSigned w64 c.quotient.result = omega (arith, ints, small) in
    let v : c.product-sum.result ≡ c.quotient.result *ℤ at c.args.entries.now t.column =
    simp (to_z-of_z) at c.product-sum.ensures.value in
    let e : c.quotient.result ≡ quotient_of c.args.weight c.args.q t =
    rw (to_z-of_z w64 c.args.weight c.ranges.weight, to_z-of_z w64 c.args.q c.ranges.q) at
    c.quotient.ensures.exact in
    let p = product_within c.quotient.result (at c.args.entries.now t.column) (10 ^ 15) (2 ^ 40)
    small near in
    (v ∙ ap (λ (z : ℤ). z *ℤ at c.args.entries.now t.column) e, rw v p)

pub overflow_add-sum : goal.overflow_add-sum
overflow_add-sum c =
    let p = term c in
    let n = length-rising (length c.args.entries.now) c.args.terms.now c.requires.terms in
    omega (arith, ints, n, p.1, c.requires.few, c.loop-term-test.true, c.loop-term.invariant.within)

pub loop-term-preserved : goal.loop-term-preserved
loop-term-preserved c =
    let p = term c in
    let n = length-rising (length c.args.entries.now) c.args.terms.now c.requires.terms in
    let z = to_z-of_z w64 c.args.weight c.ranges.weight in
    let y = to_z-of_z w64 c.args.q c.ranges.q in
    let m = fold_more (λ (s : ℤ) (t : Term). s +ℤ quotient_of c.args.weight c.args.q t *ℤ at
    c.args.entries.now t.column) (pos 0) c.args.terms.now c.loop-term.term-index
    (record { column = 0; coefficient = pos 0 }) c.loop-term-test.true in
    let inv = rw (z, y) at c.loop-term.invariant.exact in
    record {
      exact = rw (z, y)
          (omega (
            arith,
            ints,
            m,
            p.0,
            p.1,
            inv,
            n,
            c.requires.few,
            c.loop-term-test.true,
            c.loop-term.invariant.within,
          ));
      within = omega (
        arith,
        ints,
        n,
        p.1,
        c.requires.few,
        c.loop-term-test.true,
        c.loop-term.invariant.within,
      );
    }

pub returns-clause-near : goal.returns-clause-near
returns-clause-near c =
    let n = length-rising (length c.args.entries.now) c.args.terms.now c.requires.terms in
    omega (
      arith,
      ints,
      n,
      c.requires.few,
      c.loop-term.invariant.within,
      c.loop-term.auto.term-index-end,
    )
