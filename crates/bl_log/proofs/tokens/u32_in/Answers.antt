use Rattle.std.proofs.Common.{◌≡◌, ◌∙◌, arith, subst, sym, Ok}
use Rattle.std.specs.Str.{IsAscii}
use Rattle.std.proofs.lemmas.Fmt.{IsAscii-decimal_wide, parse-decimal_wide}
use Rattle.bl_log.proofs.Numerals.{not_both, ok_same}
use Rattle.bl_log.proofs.tokens.u32_in.Goals as goal

pub returns-in_default-clause-reads : goal.returns-in_default-clause-reads
returns-in_default-clause-reads c =
    λ n f is. absurd (c.in_default.ensures
    (subst IsAscii (sym is) (IsAscii-decimal_wide n (omega (arith, f)))))

pub returns-in-Ok-clause-reads : goal.returns-in-Ok-clause-reads
returns-in-Ok-clause-reads c = λ n f is.
    let ascii : IsAscii c.args.word.now =
    subst IsAscii (sym is) (IsAscii-decimal_wide n (omega (arith, f))) in
    let parsed : c.parse.result ≡ Ok n = parse-decimal_wide 32 n _ c.parse.result f
    (omega (arith, f)) (c.in-Some.ensures ascii ∙ is) c.parse.ensures.value.0 in
    ok_same c.parse.result c.in-Ok.number n c.in-Ok.is parsed

pub returns-in-Err-clause-reads : goal.returns-in-Err-clause-reads
returns-in-Err-clause-reads c = λ n f is.
    let ascii : IsAscii c.args.word.now =
    subst IsAscii (sym is) (IsAscii-decimal_wide n (omega (arith, f))) in
    let parsed : c.parse.result ≡ Ok n = parse-decimal_wide 32 n _ c.parse.result f
    (omega (arith, f)) (c.in-Some.ensures ascii ∙ is) c.parse.ensures.value.0 in
    absurd (not_both c.parse.result n c.in-Err.field-0 parsed c.in-Err.is)
