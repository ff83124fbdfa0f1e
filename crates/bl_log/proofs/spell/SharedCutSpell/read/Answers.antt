use Rattle.std.proofs.Common.{◌∙◌, ◌∷◌, ◌++◌}
use Rattle.std.specs.Int.{w128}
use Rattle.std.proofs.lemmas.Int.{to_z-of_z}
use Rattle.std.specs.Fmt.{decimal, signed_decimal}
use Rattle.bl_log.specs.Spaced.{listed}
use Rattle.bl_log.specs.Log.{term}
use Rattle.bl_log.proofs.spell.SharedCutSpell.read.Goals as goal

pub returns-clause-reads : goal.returns-clause-reads
returns-clause-reads c = λ x rest f is.
    let one = c.in_ok-seat.ensures.reads x.id.seat (decimal x.id.serial ∷ signed_decimal x.right
    ∷ (listed term x.terms ++ rest)) f.seat is in
    let two = c.in_ok-serial.ensures.reads x.id.serial
    (signed_decimal x.right ∷ (listed term x.terms ++ rest)) f.serial one.1 in
    let three = c.in_ok-right.ensures.reads x.right (listed term x.terms ++ rest) f.right two.1 in
    let four = c.in_ok-terms.ensures.reads x.terms rest f.terms three.1 in
    let right = to_z-of_z w128 c.in_ok-right.right c.in_ok-right.ensures.fits ∙ three.0 in (
      c.in_ok-new.ensures
          ∙ (λ i. record {
            id = record { seat = one.0 i; serial = two.0 i };
            terms =
                four.0 i;
            right = right i;
          }),
      four.1,
    )
