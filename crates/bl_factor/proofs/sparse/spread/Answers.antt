use Rattle.std.proofs.Common.{ℕ, ◌∙◌, sym, ap, subst, length, arith, List}
use Rattle.std.proofs.lemmas.List.{take_all}
use Rattle.bl_factor.specs.declared.sparse.Entry.{Entry}
use Rattle.bl_factor.specs.Sparse.{IsSparse, value_at}
use Rattle.bl_factor.proofs.Columns.{is_column_of}
use Rattle.bl_factor.proofs.SparseLemmas.{no_entry, next_entry, HasEntries-more}
use Rattle.bl_factor.proofs.sparse.spread.Goals as goal

pub bounds-column-entry : goal.bounds-column-entry
bounds-column-entry c =
    let x = next_entry 0 (length c.args.column.now) c.args.entries.now c.loop-entry.entry-index
    no_entry c.requires c.loop-entry-test.true in
    omega (arith, x.below, c.loop-entry.auto.column, c.fill.ensures.len)

pub loop-entry-preserved : goal.loop-entry-preserved
loop-entry-preserved c =
    let s = subst (λ (n : ℕ). IsSparse 0 n c.args.entries.now)
    (sym (c.loop-entry.auto.column ∙ c.fill.ensures.len)) c.requires in
    HasEntries-more c.loop-entry.column c.args.entries.now c.loop-entry.entry-index s
    c.loop-entry-test.true c.loop-entry.invariant

pub returns : goal.returns
returns c =
    let t = take_all c.loop-entry.entry-index c.args.entries.now c.loop-entry-test.false in
    is_column_of (length c.args.column.now) (value_at c.args.entries.now) c.loop-entry.column
    (c.loop-entry.auto.column ∙ c.fill.ensures.len)
    (λ k l. c.loop-entry.invariant k (omega (arith, c.loop-entry.auto.column, c.fill.ensures.len))
    ∙ ap (λ (es : List Entry). value_at es k) t)
