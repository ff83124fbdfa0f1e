use Rattle.std.proofs.Common.{◌∙◌, ◌∷◌, ◌++◌}
use Rattle.std.specs.Int.{w64}
use Rattle.std.specs.Fmt.{signed_decimal}
use Rattle.std.proofs.lemmas.Int.{to_z-of_z}
use Rattle.bl_journal.specs.declared.entry.Step.TheVariants.{Split}
use Rattle.bl_log.specs.Log.{lists_of}
use Rattle.bl_log.proofs.values.read_split.Goals as goal

pub returns-clause-reads : goal.returns-clause-reads
returns-clause-reads c = λ common column at rest column_fits at_fits fits is.
    let one = c.in_ok-column.ensures.reads column (signed_decimal at ∷ (lists_of common ++ rest))
    column_fits is in
    let two = c.in_ok-at.ensures.reads at (lists_of common ++ rest) at_fits one.1 in
    let three = c.in_ok-change.ensures.reads common rest fits two.1 in
    let place = to_z-of_z w64 c.in_ok-at.at c.in_ok-at.ensures.fits ∙ two.0 in
    let change = c.in_ok-common.ensures ∙ three.0 in
    ((λ i. Split (change i) (one.0 i) (place i)), three.1)
