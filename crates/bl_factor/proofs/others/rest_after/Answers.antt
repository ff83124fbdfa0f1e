use Rattle.std.proofs.Common.{refl, length, arith}
use Rattle.std.proofs.lemmas.List.{take_all}
use Rattle.std.proofs.lemmas.List.Sums.{fold_more}
use Rattle.bl_factor.specs.Sparse.{value_at}
use Rattle.bl_factor.proofs.SparseLemmas.{no_entry, next_entry, less_entry, taken_off-entries}
use Rattle.bl_factor.proofs.others.rest_after.Goals as goal

pub bounds-right-entry : goal.bounds-right-entry
bounds-right-entry c =
    (next_entry 0 (length c.args.right.now) c.args.entries.now c.loop-entry.entry-index no_entry
    c.requires c.loop-entry-test.true).below

pub loop-entry-preserved : goal.loop-entry-preserved
loop-entry-preserved c =
    let m = fold_more (less_entry c.args.right.now) c.args.start c.args.entries.now
    c.loop-entry.entry-index no_entry c.loop-entry-test.true in
    let i = c.loop-entry.invariant in
    let d = c.less_product-rest.ensures in
    cc

pub returns : goal.returns
returns c =
    let t = take_all c.loop-entry.entry-index c.args.entries.now c.loop-entry-test.false in
    let e = taken_off-entries 0 (length c.args.right.now) (length c.args.right.now)
    c.args.entries.now (value_at c.args.entries.now) c.args.right.now c.args.start
    (omega arith) c.requires (λ i a b. refl) in
    let i = c.loop-entry.invariant in
    cc
