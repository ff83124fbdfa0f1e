use Rattle.std.proofs.Common.{◌≡◌, ◌+◌, ℕ, ◌∙◌, sym, ap, subst, length, map, set, get_or, arith}
use Rattle.std.proofs.Common.{rules, List, ℤ, FitsSigned}
use Rattle.std.specs.Int.{w64}
use Rattle.std.proofs.lemmas.Int.{to_z-of_z}
use Rattle.std.proofs.lemmas.List.{take_all}
use Rattle.bl_fixed.specs.declared.Fixed.{Fixed}
use Rattle.bl_fixed.specs.Fixed.{saturated_difference, saturated_product}
use Rattle.bl_factor.specs.Vectors.{at}
use Rattle.bl_factor.specs.declared.sparse.Entry.{Entry}
use Rattle.bl_factor.specs.Sparse.{IsSparse, value_at}
use Rattle.bl_factor.specs.Elimination.{less_multiple}
use Rattle.bl_factor.specs.Others.{narrow_number, widened}
use Rattle.bl_factor.proofs.Columns.{is_column_of}
use Rattle.bl_factor.proofs.SparseLemmas.{IsLess, IsLess-none}
use Rattle.bl_factor.proofs.Narrow.{no_narrow, length-widened, narrow-below, IsLess-narrow}
use Rattle.bl_factor.proofs.others.subtract_by_wide.Goals as goal

pub loop-entry-init : goal.loop-entry-init
loop-entry-init c = IsLess-none c.args.right.now (map widened c.args.entries.now) c.args.factor

pub bounds-right-entry : goal.bounds-right-entry
bounds-right-entry c =
    let b = narrow-below (length c.args.right.now) c.args.entries.now c.loop-entry.entry-index
    c.requires c.loop-entry-test.true in
    omega (arith, b, c.loop-entry.auto.right)

pub loop-entry-preserved : goal.loop-entry-preserved
loop-entry-preserved c =
    let es = c.args.entries.now in
    let e = get_or es c.loop-entry.entry-index no_narrow in
    let q = c.args.factor in
    let s = subst (λ (n : ℕ). IsSparse 0 n (map widened es)) (sym c.loop-entry.auto.right)
    c.requires in
    let m = IsLess-narrow c.args.right.now c.loop-entry.right es q c.loop-entry.entry-index s
    c.loop-entry-test.true c.loop-entry.invariant in
    let f : FitsSigned w64 e.raw = search rules in
    let r : c.saturating_sub.result ≡ saturated_difference (at c.loop-entry.right e.place)
    (saturated_product (narrow_number e.raw) q) =
    c.saturating_sub.ensures ∙ ap
    (λ (z : Fixed). saturated_difference (at c.loop-entry.right e.place) z)
    (c.saturating_mul.ensures ∙ ap (λ (z : Fixed). saturated_product z c.args.factor)
    c.wide.ensures)
    ∙ ap (λ (z : ℤ). saturated_difference (at c.loop-entry.right e.place)
    (saturated_product (narrow_number z) c.args.factor)) (to_z-of_z w64 e.raw f) in
    subst (λ (z : Fixed). IsLess c.args.right.now (map widened es) q
    (c.loop-entry.entry-index + 1) (set c.loop-entry.right e.place z)) (sym r) m

pub returns : goal.returns
returns c =
    let es = map widened c.args.entries.now in
    let t = take_all c.loop-entry.entry-index es
    (omega (arith, c.loop-entry-test.false, length-widened c.args.entries.now)) in
    is_column_of (length c.args.right.now) _ c.loop-entry.right c.loop-entry.auto.right
    (λ k l. c.loop-entry.invariant k (omega (arith, c.loop-entry.auto.right))
    ∙ ap (λ (us : List Entry). less_multiple (at c.args.right.now k) (value_at us k)
    (c.args.factor)) t)
