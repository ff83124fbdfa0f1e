use Rattle.std.proofs.Common.{◌<◌, ℤ, ◌*ℤ◌, neg_ℤ, List, length, Option, Some, refl, sym, ◌∙◌, ap}
use Rattle.std.proofs.Common.{arith, FitsSigned, rules}
use Rattle.std.specs.Int.{w64}
use Rattle.std.proofs.lemmas.Int.{to_z-of_z}
use Rattle.bl_num.specs.Exact.{at}
use Rattle.bl_num.specs.Checked.{checked_add, checked_sum}
use Rattle.bl_num.proofs.CheckedLemmas.{checked_sum-start, checked_sum-more}
use Rattle.bl_problem.specs.Rows.{coefficient_of}
use Rattle.bl_problem.specs.declared.problem.Term.{Term}
use Rattle.bl_bound.specs.Lines.{Line, lines_of}
use Rattle.bl_bound.specs.Bounds.{sum_at, taken}
use Rattle.bl_bound.proofs.LineLemmas.{length-lines_of}
use Rattle.bl_bound.proofs.Columns.{checked_sum-settled}
use Rattle.bl_bound.proofs.sums.take_lines.Goals as goal

pub loop-i-init : goal.loop-i-init
loop-i-init c = record { width = refl; sums = λ j l. sym (checked_sum-start _ _) }

pub take_line-requires-clause-terms : goal.take_line-requires-clause-terms
take_line-requires-clause-terms c =
    let w = c.loop-i.invariant.width in
    let n = length-lines_of c.args.rows.now c.args.cuts.now in
    let e = ap (λ (l : Line). l.terms) c.line.ensures in
    rw (w, e) (c.requires.terms c.loop-i.i _
    (omega (arith, n, c.requires.multipliers, c.loop-i-test.true)))

pub take_line-requires-clause-settled : goal.take_line-requires-clause-settled
take_line-requires-clause-settled c = λ j l.
    let m : j < length c.args.sums.now = omega (arith, c.loop-i.invariant.width) in
    rw (c.loop-i.invariant.sums j m) (checked_sum-settled (sum_at c.args.sums.now j)
    (taken (lines_of c.args.rows.now c.args.cuts.now) c.args.y.now j) c.loop-i.i
    (c.requires.settled j m))

pub loop-i-preserved : goal.loop-i-preserved
loop-i-preserved c = record {
  width = c.take_line.ensures.length ∙ c.loop-i.invariant.width;
  sums = λ j m.
      let l : j < length c.loop-i.sums = omega (arith, c.loop-i.invariant.width) in
      let f : FitsSigned w64 (at c.args.y.now c.loop-i.i) = search rules in
      let s = rw (to_z-of_z w64 (at c.args.y.now c.loop-i.i) f) at (c.take_line.ensures.sums j l) in
      let start = sum_at c.args.sums.now j in
      let part = taken (lines_of c.args.rows.now c.args.cuts.now) c.args.y.now j in
      let e = ap (λ (l : Line). l.terms) c.line.ensures in
      s ∙ ap (λ (o : Option ℤ). checked_add o
      (Some (neg_ℤ (at c.args.y.now c.loop-i.i *ℤ coefficient_of c.line.result.terms.now j))))
      (c.loop-i.invariant.sums j m)
      ∙ ap (λ (ts : List Term). checked_add (checked_sum start c.loop-i.i part)
      (Some (neg_ℤ (at c.args.y.now c.loop-i.i *ℤ coefficient_of ts j)))) e
      ∙ sym (checked_sum-more start c.loop-i.i part);
}
