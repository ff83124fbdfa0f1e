use Rattle.std.proofs.Common.{◌≡◌, ◌+ℤ◌, ◌-ℤ◌, ◌*ℤ◌, ℤ, arith, pos, length, to_z, of_z, get_or}
use Rattle.std.proofs.Common.{sym, ◌∙◌, ap}
use Rattle.std.proofs.lemmas.Int.{ints, to_z-of_z}
use Rattle.std.specs.Int.{w64, w128}
use Rattle.std.proofs.lemmas.List.Elements.{All-get_or}
use Rattle.bl_num.specs.Exact.{at}
use Rattle.bl_num.proofs.SumLemmas.{at-map}
use Rattle.bl_problem.specs.Points.{costs_of}
use Rattle.bl_problem.specs.Program.{IsColumn}
use Rattle.bl_problem.specs.declared.problem.Column.{Column}
use Rattle.bl_problem.specs.declared.problem.Term.{Term}
use Rattle.bl_problem.proofs.Limits.{length-rising}
use Rattle.bl_bound.specs.Units.{least_of, moved_by}
use Rattle.bl_bound.proofs.UnitSums.{move_is, step_near, moved-more}
use Rattle.bl_bound.proofs.units.move_of.Goals as goal

pub part_move-sum-requires-clause-step : goal.part_move-sum-requires-clause-step
part_move-sum-requires-clause-step c =
    let d : Term = record { column = 0; coefficient = pos 0 } in
    let t = c.requires.terms.each c.loop-term.term-index d c.loop-term-test.true in
    step_near c.args.y (get_or c.args.terms.now c.loop-term.term-index d).coefficient
    c.requires.unit t.coefficient

pub overflow_add-sum : goal.overflow_add-sum
overflow_add-sum c =
    let n = length-rising (length c.args.columns.now) c.args.terms.now c.requires.terms in
    let w = c.loop-term.invariant.within in
    let p = c.part_move-sum.ensures.near in
    omega (arith, ints, n, w, p)

pub loop-term-preserved : goal.loop-term-preserved
loop-term-preserved c =
    let d : Term = record { column = 0; coefficient = pos 0 } in
    let t = get_or c.args.terms.now c.loop-term.term-index d in
    let h = c.requires.terms.each c.loop-term.term-index d c.loop-term-test.true in
    let col : IsColumn c.index-columns-j.result =
    rw c.index-columns-j.is (All-get_or IsColumn c.args.columns.now t.column
    c.index-columns-j.result h.column c.requires.bounded.each) in
    let low = c.requires.bounded.near_lows t.column (pos 0)
    (omega (arith, h.column, c.requires.bounded.low_width)) in
    let high = c.requires.bounded.near_highs t.column (pos 0)
    (omega (arith, h.column, c.requires.bounded.high_width)) in
    let e = move_is c.part_move-sum.result c.index-columns-j.result.cost
    (at c.args.lows.now t.column) (at c.args.highs.now t.column) c.args.y t.coefficient
    (rw (← c.index-columns-j.is) at c.part_move-sum.ensures.exact) col.cost low high
    c.requires.unit h.coefficient in
    let k = at-map (λ (d : Column). d.cost) c.args.columns.now t.column c.index-columns-j.result
    h.column ∙ ap (λ (d : Column). d.cost) (sym c.index-columns-j.is) in
    let v = e ∙ ap (λ (z : ℤ). least_of (z -ℤ c.args.y *ℤ t.coefficient)
    (at c.args.lows.now t.column) (at c.args.highs.now t.column) -ℤ least_of z
    (at c.args.lows.now t.column) (at c.args.highs.now t.column)) (sym k) in
    let w = c.loop-term.invariant.within in
    let z = to_z-of_z w64 c.args.y c.ranges.y in
    let x = moved-more (costs_of c.args.columns.now) c.args.lows.now c.args.highs.now
    (to_z w64 (of_z w64 c.args.y)) c.args.terms.now c.loop-term.term-index d c.loop-term.sum
    c.part_move-sum.result c.loop-term-test.true
    (sym c.loop-term.sum-is ∙ c.loop-term.invariant.exact)
    (v ∙ ap (λ (u : ℤ). moved_by (costs_of c.args.columns.now) c.args.lows.now c.args.highs.now u
    t.column t.coefficient) (sym z)) in
    let n = length-rising (length c.args.columns.now) c.args.terms.now c.requires.terms in
    let p = c.part_move-sum.ensures.near in
    record {
      exact = let q : to_z w128
          (of_z w128 (to_z w128 c.loop-term.sum-bits +ℤ to_z w128
          (of_z w128 c.part_move-sum.result))) ≡ c.loop-term.sum +ℤ c.part_move-sum.result =
          omega (arith, ints, w, p, n) in q ∙ x;
      within = omega (arith, ints, w, p, n);
    }

pub returns-clause-near : goal.returns-clause-near
returns-clause-near c =
    let n = length-rising (length c.args.columns.now) c.args.terms.now c.requires.terms in
    let w = c.loop-term.invariant.within in
    omega (arith, ints, n, w)
