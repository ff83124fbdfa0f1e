use Rattle.std.proofs.Common.{◌≡◌, ◌^◌, ◌+ℤ◌, ℤ, arith, pos, length, get_or, FitsSigned}
use Rattle.std.specs.Int.{w64}
use Rattle.std.proofs.lemmas.Int.{ints, to_z-of_z}
use Rattle.std.proofs.lemmas.List.Sums.{fold_more}
use Rattle.bl_num.specs.Exact.{at}
use Rattle.bl_problem.specs.Sums.{IsWithin}
use Rattle.bl_problem.specs.declared.problem.Term.{Term}
use Rattle.bl_problem.proofs.Limits.{length-rising}
use Rattle.bl_prop.specs.Passes.{least_part}
use Rattle.bl_prop.proofs.slack.least_sum.Goals as goal

-- what this turn adds: it is exact, and small
term : (c : goal.After-least_part-sum) → (c.least_part-sum.result ≡ least_part c.args.negate
    c.args.lows.now c.args.highs.now (get_or c.args.terms.now c.loop-term.term-index
    (record { column = 0; coefficient = pos 0 }))) × IsWithin (10 ^ 24) c.least_part-sum.result
term c =
    let d : Term = record { column = 0; coefficient = pos 0 } in
    let t : Term = get_or c.args.terms.now c.loop-term.term-index d in
    let h = c.requires.terms.each c.loop-term.term-index d c.loop-term-test.true in
    let l = c.requires.near_lows t.column (pos 0) h.column in
    let u = c.requires.near_highs t.column (pos 0) (omega (arith, h.column, c.requires.highs)) in
    let f : FitsSigned w64 (at c.args.lows.now t.column) = omega (arith, ints, l) in
    let g : FitsSigned w64 (at c.args.highs.now t.column) = omega (arith, ints, u) in
    let v = simp to_z-of_z at c.least_part-sum.ensures.value in
    (v, c.least_part-sum.ensures.small)

pub overflow_add-sum : goal.overflow_add-sum
overflow_add-sum c =
    let p = term c in
    let n = length-rising (length c.args.lows.now) c.args.terms.now c.requires.terms in
    omega (arith, ints)

pub loop-term-preserved : goal.loop-term-preserved
loop-term-preserved c =
    let p = term c in
    let n = length-rising (length c.args.lows.now) c.args.terms.now c.requires.terms in
    let m = fold_more (λ (s : ℤ) (t : Term). s +ℤ least_part c.args.negate c.args.lows.now
    c.args.highs.now t) (pos 0) c.args.terms.now c.loop-term.term-index
    (record { column = 0; coefficient = pos 0 }) c.loop-term-test.true in
    record {
      exact = omega (arith, ints, m, p.0);
      within = omega (arith, ints);
    }

pub returns-clause-small : goal.returns-clause-small
returns-clause-small c =
    let n = length-rising (length c.args.lows.now) c.args.terms.now c.requires.terms in
    omega (
      arith,
      ints,
      n,
      c.loop-term.invariant.within,
      c.loop-term.auto.term-index-end,
      c.requires.few,
    )
