use Rattle.std.proofs.Common.{◌≡◌, ℕ, ◌<◌, List, get_or, ◌≤ℤ◌, arith, length, sym, ◌∙◌, ap, refl}
use Rattle.std.proofs.Common.{FitsSigned, rules}
use Rattle.std.proofs.lemmas.Int.{ints}
use Rattle.std.proofs.lemmas.List.{length-map}
use Rattle.std.specs.Int.{w64}
use Rattle.bl_num.specs.Exact.{at}
use Rattle.bl_num.proofs.SumLemmas.{at-map}
use Rattle.bl_problem.specs.Points.{lows_of, highs_of}
use Rattle.bl_problem.specs.declared.problem.Column.{Column}
use Rattle.bl_problem.proofs.Boxes.{box-width, box-entry, box-from}
use borrow.Author.Count.{below_more}
use Rattle.bl_problem.proofs.point.is_in_box.Goals as goal

-- the bounds of this turn's column
bounds : (columns : List Column) (j : ℕ) (c : Column) → c ≡ get_or columns j c → j
    < length columns → (at (lows_of columns) j ≡ c.low) × (at (highs_of columns) j ≡ c.high)
bounds columns j c is l = (
  at-map (λ (d : Column). d.low) columns j c l ∙ ap (λ (d : Column). d.low) (sym is),
  at-map
      (λ (d : Column). d.high) columns j c l ∙ ap (λ (d : Column). d.high) (sym is),
)

pub returns-then-point-columns : goal.returns-then-point-columns
returns-then-point-columns c = (
  λ t. search rules,
  λ b.
      let w = box-width (lows_of c.args.columns.now) (highs_of c.args.columns.now)
      c.args.point.now b in
      let n = length-map c.args.columns.now (λ (d : Column). d.low) in
      absurd (omega (arith, w.lows, n, c.if-point-columns.true)),
)

pub returns-then-not-holds : goal.returns-then-not-holds
returns-then-not-holds c = (
  λ t. search rules,
  λ b.
      let e = box-entry (lows_of c.args.columns.now) (highs_of c.args.columns.now)
      c.args.point.now c.loop-j.j b (omega arith) in
      let f = bounds c.args.columns.now c.loop-j.j c.index-columns-j.result c.index-columns-j.is
      c.loop-j-test.true in
      let g : FitsSigned w64 (at c.args.point.now c.loop-j.j) = search rules in
      c.if-not-holds.ensures.1 (omega (arith, ints, e.0, f.0), omega (arith, ints, e.1, f.1)),
)

pub loop-j-preserved : goal.loop-j-preserved
loop-j-preserved c =
    let f = bounds c.args.columns.now c.loop-j.j c.index-columns-j.result c.index-columns-j.is
    c.loop-j-test.true in
    let g : FitsSigned w64 (at c.args.point.now c.loop-j.j) = search rules in
    let z = c.if-not-holds.ensures in
    let t = z.0 refl in
    below_more (λ k. (at (lows_of c.args.columns.now) k ≤ℤ at c.args.point.now k)
    × (at c.args.point.now k ≤ℤ at (highs_of c.args.columns.now) k)) c.loop-j.j
    c.loop-j.invariant
    (omega (arith, ints, f.0, f.1, t.0, t.1), omega (arith, ints, f.0, f.1, t.0, t.1))

pub returns : goal.returns
returns c = (
  λ t.
      box-from (lows_of c.args.columns.now) (highs_of c.args.columns.now) c.args.point.now
      (record {
        lows = length-map c.args.columns.now (λ (d : Column). d.low) ∙ sym c.if-point-columns.false;
        highs = length-map c.args.columns.now (λ (d : Column). d.high)
            ∙ sym c.if-point-columns.false;
      })
      (λ j l. c.loop-j.invariant j (omega arith)),
  λ b. refl,
)
