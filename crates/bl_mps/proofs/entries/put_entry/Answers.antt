use Rattle.std.proofs.Common.{◌∙◌, sym, ap, ◌++◌, ◌∷◌, []}
use Rattle.bl_mps.specs.declared.entries.Entry.{Entry}
use Rattle.bl_mps.specs.Meaning.{entry_of, is_zero}
use Rattle.bl_cards.specs.Views.{cell_of}
use Rattle.bl_mps.proofs.Lists.{entries_zero, entries_unknown, entries_put, no_entry, an_entry}
use Rattle.bl_mps.proofs.entries.put_entry.Goals as goal

pub returns-in_default : goal.returns-in_default
returns-in_default c = λ cells e.
    let cell = cell_of c.args.cell.now in
    e ∙ entries_zero c.args.names.now cells cell
    (no_entry (is_zero cell.number) (entry_of cell) (sym c.nonzero.ensures ∙ c.in_default.is))

pub returns-in_default-find : goal.returns-in_default-find
returns-in_default-find c = λ cells e. e
    ∙ entries_unknown c.args.names.now cells (cell_of c.args.cell.now)
    (sym c.find.ensures.place ∙ c.in_default-find.is)

pub returns-in_ok-push : goal.returns-in_ok-push
returns-in_ok-push c = λ cells e.
    let cell = cell_of c.args.cell.now in
    let t = an_entry (is_zero cell.number) (entry_of cell) c.in-Some.entry
    (sym c.nonzero.ensures ∙ c.in-Some.is) in
    entries_put c.args.names.now cells cell c.in-Some-find.place c.args.entries.now.items
    c.index_mut.result.now c.push.new.self c.find.ensures.differ
    (sym c.find.ensures.place ∙ c.in-Some-find.is) t.0 e c.index_mut.ensures.value
    (c.in_ok-push.ensures.ok ∙ ap (λ (x : Entry). c.index_mut.result.now ++ x ∷ []) (sym t.1))
