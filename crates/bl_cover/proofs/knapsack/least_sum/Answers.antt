use Rattle.std.proofs.Common.{◌+ℤ◌, ℤ, arith, pos, length}
use Rattle.std.proofs.lemmas.Int.{ints}
use Rattle.std.proofs.lemmas.List.Sums.{fold_more}
use Rattle.bl_problem.specs.declared.problem.Term.{Term}
use Rattle.bl_problem.proofs.Limits.{length-rising}
use Rattle.bl_cover.specs.Covers.{least_of}
use Rattle.bl_cover.proofs.knapsack.least_sum.Goals as goal

pub overflow_add-sum : goal.overflow_add-sum
overflow_add-sum c =
    let n = length-rising (length c.args.columns.now) c.args.terms.now c.requires.terms in
    omega (
      arith,
      ints,
      n,
      c.requires.few,
      c.loop-term-test.true,
      c.loop-term.invariant.within,
      c.least_of-sum.ensures.near,
    )

pub loop-term-preserved : goal.loop-term-preserved
loop-term-preserved c =
    let n = length-rising (length c.args.columns.now) c.args.terms.now c.requires.terms in
    let m = fold_more (λ (s : ℤ) (t : Term). s +ℤ least_of c.args.columns.now t) (pos 0)
    c.args.terms.now c.loop-term.term-index (record { column = 0; coefficient = pos 0 })
    c.loop-term-test.true in
    record {
      exact = omega (
        arith,
        ints,
        m,
        c.least_of-sum.ensures.exact,
        c.loop-term.invariant.exact,
        n,
        c.requires.few,
        c.loop-term-test.true,
        c.loop-term.invariant.within,
        c.least_of-sum.ensures.near,
      );
      within = omega (
        arith,
        ints,
        n,
        c.requires.few,
        c.loop-term-test.true,
        c.loop-term.invariant.within,
        c.least_of-sum.ensures.near,
      );
    }

pub returns-clause-near : goal.returns-clause-near
returns-clause-near c =
    let n = length-rising (length c.args.columns.now) c.args.terms.now c.requires.terms in
    omega (
      arith,
      ints,
      n,
      c.requires.few,
      c.loop-term.invariant.within,
      c.loop-term.auto.term-index-end,
    )
