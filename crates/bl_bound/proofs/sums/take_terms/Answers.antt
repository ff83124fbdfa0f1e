use Rattle.std.proofs.Common.{◌≡◌, ℤ, pos, ◌+ℤ◌, ◌*ℤ◌, neg_ℤ, List, get_or, Option, Some, sym}
use Rattle.std.proofs.Common.{◌∙◌, ap, arith, FitsSigned, rules, slice_set}
use Rattle.std.specs.Int.{w64, w128}
use Rattle.std.proofs.lemmas.Int.{ints, to_z-of_z}
use Rattle.std.proofs.Math.IntN.{+ℤ_idl}
use Rattle.std.proofs.lemmas.List.Sums.{fold_more}
use Rattle.bl_num.specs.Checked.{checked_add}
use Rattle.bl_problem.specs.declared.problem.Term.{Term}
use Rattle.bl_bound.specs.Bounds.{sum_at}
use Rattle.bl_bound.specs.Steps.{taken_term}
use Rattle.bl_bound.proofs.sums.take_terms.Goals as goal

pub loop-term-preserved : goal.loop-term-preserved
loop-term-preserved c =
    let d : Term = record { column = 0; coefficient = pos 0 } in
    let t : Term = get_or c.args.terms.now c.loop-term.term-index d in
    let f : FitsSigned w64 t.coefficient = search rules in
    let z = to_z-of_z w64 c.args.y c.ranges.y in
    let inv = rw z at c.loop-term.invariant in
    let g = c.ranges.y in
    let p = simp to_z-of_z at c.product.ensures.value in
    let h : FitsSigned w128 c.product.result = record { sfits = c.product.type_inv } in
    let n : FitsSigned w128 (pos 0 +ℤ neg_ℤ c.product.result) =
    omega (arith, ints, c.product.ensures.small) in
    let s = simp to_z-of_z at c.plus.ensures in
    let e : pos 0 +ℤ neg_ℤ c.product.result ≡ neg_ℤ (c.args.y *ℤ t.coefficient) =
    +ℤ_idl (neg_ℤ c.product.result) ∙ ap neg_ℤ p in
    let m = fold_more (taken_term c.args.y) c.args.sums.now c.args.terms.now
    c.loop-term.term-index d c.loop-term-test.true in
    let written = s ∙ ap (λ (v : ℤ). checked_add (sum_at c.loop-term.sums t.column) (Some v)) e in
    rw z (m ∙ ap (λ (sums : List (Option ℤ)). taken_term c.args.y sums t) inv
    ∙ ap (λ (o : Option ℤ). slice_set c.loop-term.sums t.column o) (sym written))
