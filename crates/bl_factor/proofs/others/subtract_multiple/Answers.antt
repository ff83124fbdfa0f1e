use Rattle.std.proofs.Common.{◌≡◌, ◌+◌, ℕ, ◌∙◌, sym, ap, subst, length, set, get_or, arith, List}
use Rattle.std.proofs.lemmas.List.{take_all}
use Rattle.bl_fixed.specs.declared.Fixed.{Fixed}
use Rattle.bl_fixed.specs.Fixed.{saturated_difference, saturated_product}
use Rattle.bl_factor.specs.Vectors.{at}
use Rattle.bl_factor.specs.declared.sparse.Entry.{Entry}
use Rattle.bl_factor.specs.Sparse.{IsSparse, value_at}
use Rattle.bl_factor.specs.Elimination.{less_multiple}
use Rattle.bl_factor.proofs.Columns.{is_column_of}
use Rattle.bl_factor.proofs.SparseLemmas.{no_entry, next_entry, IsLess, IsLess-none, IsLess-more}
use Rattle.bl_factor.proofs.others.subtract_multiple.Goals as goal

pub bounds-right-entry : goal.bounds-right-entry
bounds-right-entry c =
    let x = next_entry 0 (length c.args.right.now) c.args.entries.now c.loop-entry.entry-index
    no_entry c.requires c.loop-entry-test.true in
    omega (arith, x.below)

pub loop-entry-init : goal.loop-entry-init
loop-entry-init c = IsLess-none c.args.right.now c.args.entries.now c.args.factor

pub loop-entry-preserved : goal.loop-entry-preserved
loop-entry-preserved c =
    let e = get_or c.args.entries.now c.loop-entry.entry-index no_entry in
    let s = subst (λ (n : ℕ). IsSparse 0 n c.args.entries.now) (sym c.loop-entry.auto.right)
    c.requires in
    let m = IsLess-more c.args.right.now c.loop-entry.right c.args.entries.now c.args.factor
    c.loop-entry.entry-index s c.loop-entry-test.true c.loop-entry.invariant in
    let r : c.saturating_sub.result ≡ saturated_difference (at c.loop-entry.right e.place)
    (saturated_product e.value c.args.factor) =
    c.saturating_sub.ensures
    ∙ ap (λ (z : Fixed). saturated_difference (at c.loop-entry.right e.place) z)
    c.saturating_mul.ensures in
    subst (λ (z : Fixed). IsLess c.args.right.now c.args.entries.now c.args.factor
    (c.loop-entry.entry-index + 1) (set c.loop-entry.right e.place z)) (sym r) m

pub returns : goal.returns
returns c =
    let t = take_all c.loop-entry.entry-index c.args.entries.now c.loop-entry-test.false in
    is_column_of (length c.args.right.now) _ c.loop-entry.right c.loop-entry.auto.right
    (λ k l. c.loop-entry.invariant k (omega (arith, c.loop-entry.auto.right))
    ∙ ap (λ (es : List Entry). less_multiple (at c.args.right.now k) (value_at es k)
    c.args.factor) t)
