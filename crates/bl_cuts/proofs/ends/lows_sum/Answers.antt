use Rattle.std.proofs.Common.{ℤ, Some, sym, ◌∙◌, ap, FitsSigned, rules}
use Rattle.std.specs.Int.{w64}
use Rattle.std.proofs.lemmas.Int.{to_z-of_z}
use Rattle.bl_num.specs.Checked.{checked_mul}
use Rattle.bl_num.proofs.SumLemmas.{at-map}
use Rattle.bl_num.proofs.CheckedLemmas.{checked_sum-start, plus_step}
use Rattle.bl_problem.specs.declared.problem.Column.{Column}
use Rattle.bl_bound.specs.Bounds.{sum_at}
use Rattle.bl_cuts.proofs.ends.lows_sum.Goals as goal

pub loop-j-init : goal.loop-j-init
loop-j-init c = checked_sum-start _ _

pub loop-j-preserved : goal.loop-j-preserved
loop-j-preserved c =
    let e = at-map (λ (d : Column). d.low) c.args.columns.now c.loop-j.j c.index-columns-j.result
    c.loop-j-test.true ∙ ap (λ (d : Column). d.low) (sym c.index-columns-j.is) in
    let f : FitsSigned w64 c.index-columns-j.result.low = search rules in
    let q = simp to_z-of_z at (rw (← c.index-columns-j.is) at c.add_product-sum.ensures) in
    plus_step _ _ c.loop-j.j _ _ _ c.loop-j.invariant
    (ap (λ (v : ℤ). checked_mul (sum_at c.args.sums.now c.loop-j.j) (Some v)) e) q
