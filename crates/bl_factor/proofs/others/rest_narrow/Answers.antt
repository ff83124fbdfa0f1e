use Rattle.std.proofs.Common.{◌≡◌, ◌∙◌, refl, ap, sym, length, map, get_or, arith, rules, ℤ}
use Rattle.std.proofs.Common.{FitsSigned}
use Rattle.std.specs.Int.{w64}
use Rattle.std.proofs.lemmas.Int.{to_z-of_z}
use Rattle.bl_fixed.specs.Fixed.{saturated_difference, saturated_product}
use Rattle.bl_factor.specs.Vectors.{at}
use Rattle.std.proofs.lemmas.List.{take_all}
use Rattle.std.proofs.lemmas.List.Sums.{fold_more}
use Rattle.bl_fixed.specs.declared.Fixed.{Fixed}
use Rattle.bl_factor.specs.declared.sparse.Entry.{Entry}
use Rattle.bl_factor.specs.Sparse.{value_at}
use Rattle.bl_factor.specs.Others.{narrow_number, widened}
use Rattle.bl_factor.proofs.SparseLemmas.{no_entry, less_entry, taken_off-entries}
use Rattle.bl_factor.proofs.Narrow.{no_narrow, at-widened, length-widened, narrow-below}
use Rattle.bl_factor.proofs.others.rest_narrow.Goals as goal

pub bounds-right-entry : goal.bounds-right-entry
bounds-right-entry c = narrow-below (length c.args.right.now) c.args.entries.now
    c.loop-entry.entry-index c.requires c.loop-entry-test.true

pub loop-entry-preserved : goal.loop-entry-preserved
loop-entry-preserved c =
    let es = c.args.entries.now in
    let k = c.loop-entry.entry-index in
    let h = c.loop-entry-test.true in
    let m = fold_more (less_entry c.args.right.now) c.args.start (map widened es) k no_entry
    (omega (arith, h, length-widened es)) in
    let n = get_or es k no_narrow in
    let e = at-widened es k h in
    let f : FitsSigned w64 n.raw = search rules in
    let r : c.less_half_narrow-rest.result ≡ less_entry c.args.right.now c.loop-entry.rest
    (widened n) =
    c.less_half_narrow-rest.ensures
    ∙ ap (λ (z : ℤ). saturated_difference c.loop-entry.rest
    (saturated_product (narrow_number z) (at c.args.right.now n.place)))
    (to_z-of_z w64 n.raw f) in
    m ∙ ap (λ (z : Fixed). less_entry c.args.right.now z (get_or (map widened es) k no_entry))
    c.loop-entry.invariant
    ∙ ap (λ (x : Entry). less_entry c.args.right.now c.loop-entry.rest x) e
    ∙ sym r

pub returns : goal.returns
returns c =
    let es = map widened c.args.entries.now in
    let t = take_all c.loop-entry.entry-index es
    (omega (arith, c.loop-entry-test.false, length-widened c.args.entries.now)) in
    let e = taken_off-entries 0 (length c.args.right.now) (length c.args.right.now) es
    (value_at es) c.args.right.now c.args.start (omega arith) c.requires (λ i a b. refl) in
    let i = c.loop-entry.invariant in
    cc
