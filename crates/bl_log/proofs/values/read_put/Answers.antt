use Rattle.std.proofs.Common.{◌∙◌, [], ◌∷◌, ◌++◌, List, codes}
use Rattle.std.specs.Int.{w128}
use Rattle.std.specs.Fmt.{decimal, signed_decimal}
use Rattle.std.proofs.lemmas.Int.{to_z-of_z}
use Rattle.bl_journal.specs.declared.entry.Entry.TheVariants.{Put}
use Rattle.bl_log.specs.Spaced.{Text}
use Rattle.bl_log.specs.Log.{found_point, next_step}
use Rattle.bl_log.proofs.Stepping.{err_stays}
use Rattle.bl_log.proofs.values.read_put.Goals as goal

pub returns-in_err-pass_word-2-clause-reads : goal.returns-in_err-pass_word-2-clause-reads
returns-in_err-pass_word-2-clause-reads c = λ seat id found low next f is.
    let tail : List Text = found_point found ++ (codes "next" ∷ (next_step next ++ [])) in
    let one = c.in_ok-seat.ensures.reads seat (decimal id ∷ codes "low" ∷ signed_decimal low ∷ codes "found" ∷ tail) f.0 is in
    let two = c.in_ok-id.ensures.reads id (codes "low" ∷ signed_decimal low ∷ codes "found" ∷ tail) f.1 one.1 in
    let three = c.in_ok-pass_word.ensures (signed_decimal low ∷ codes "found" ∷ tail) two.1 in
    let four = c.in_ok-low.ensures.reads low (codes "found" ∷ tail) f.2 three in
    err_stays c.from_residual-in_err-pass_word-2.result _ _
    c.from_residual-in_err-pass_word-2.ensures (c.in_err-pass_word-2.ensures tail four.1)

pub returns-in_err-found-clause-reads : goal.returns-in_err-found-clause-reads
returns-in_err-found-clause-reads c = λ seat id found low next f is.
    let tail : List Text = found_point found ++ (codes "next" ∷ (next_step next ++ [])) in
    let one = c.in_ok-seat.ensures.reads seat (decimal id ∷ codes "low" ∷ signed_decimal low ∷ codes "found" ∷ tail) f.0 is in
    let two = c.in_ok-id.ensures.reads id (codes "low" ∷ signed_decimal low ∷ codes "found" ∷ tail) f.1 one.1 in
    let three = c.in_ok-pass_word.ensures (signed_decimal low ∷ codes "found" ∷ tail) two.1 in
    let four = c.in_ok-low.ensures.reads low (codes "found" ∷ tail) f.2 three in
    let five = c.in_ok-pass_word-2.ensures tail four.1 in
    err_stays c.from_residual-in_err-found.result _ _ c.from_residual-in_err-found.ensures
    (c.in_err-found.ensures.reads found next f.3 f.4 five)

pub returns-clause-reads : goal.returns-clause-reads
returns-clause-reads c = λ seat id found low next f is.
    let tail : List Text = found_point found ++ (codes "next" ∷ (next_step next ++ [])) in
    let one = c.in_ok-seat.ensures.reads seat (decimal id ∷ codes "low" ∷ signed_decimal low ∷ codes "found" ∷ tail) f.0 is in
    let two = c.in_ok-id.ensures.reads id (codes "low" ∷ signed_decimal low ∷ codes "found" ∷ tail) f.1 one.1 in
    let three = c.in_ok-pass_word.ensures (signed_decimal low ∷ codes "found" ∷ tail) two.1 in
    let four = c.in_ok-low.ensures.reads low (codes "found" ∷ tail) f.2 three in
    let five = c.in_ok-pass_word-2.ensures tail four.1 in
    let six = c.in_ok-found.ensures.reads found next f.3 f.4 five in
    let number = to_z-of_z w128 c.in_ok-low.low c.in_ok-low.ensures.fits ∙ four.0 in
    (λ i. Put (one.0 i) (two.0 i) (six.0 i) (number i) (six.1 i))
