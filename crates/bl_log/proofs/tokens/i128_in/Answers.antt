use Rattle.std.proofs.Common.{◌≡◌, ◌∙◌, subst, sym, Ok}
use Rattle.std.proofs.lemmas.Int.{to_z-of_z}
use Rattle.std.specs.Str.{IsAscii}
use Rattle.std.specs.Prelude.{FitsSigned}
use Rattle.std.specs.Int.{w128}
use Rattle.bl_log.proofs.Numbers.{wide128}
use Rattle.bl_log.proofs.Numerals.{not_both, ok_same, parse128, signed_ascii}
use Rattle.bl_log.proofs.tokens.i128_in.Goals as goal

pub returns-in_default-clause-reads : goal.returns-in_default-clause-reads
returns-in_default-clause-reads c =
    λ z f is. absurd (c.in_default.ensures (subst IsAscii (sym is) (signed_ascii z (wide128 z f))))

pub returns-in-Ok-clause-reads : goal.returns-in-Ok-clause-reads
returns-in-Ok-clause-reads c = λ z f is.
    let ascii : IsAscii c.args.word.now = subst IsAscii (sym is) (signed_ascii z (wide128 z f)) in
    let parsed : c.parse.result ≡ Ok z =
    parse128 z _ c.parse.result f (c.in-Some.ensures ascii ∙ is) c.parse.ensures.value.0 in
    let same = ok_same c.parse.result c.in-Ok.number z c.in-Ok.is parsed in
    to_z-of_z w128 c.in-Ok.number (subst (λ y. FitsSigned w128 y) (sym same) f) ∙ same

pub returns-in-Err-clause-reads : goal.returns-in-Err-clause-reads
returns-in-Err-clause-reads c = λ z f is.
    let ascii : IsAscii c.args.word.now = subst IsAscii (sym is) (signed_ascii z (wide128 z f)) in
    let parsed : c.parse.result ≡ Ok z =
    parse128 z _ c.parse.result f (c.in-Some.ensures ascii ∙ is) c.parse.ensures.value.0 in
    absurd (not_both c.parse.result z c.in-Err.field-0 parsed c.in-Err.is)
