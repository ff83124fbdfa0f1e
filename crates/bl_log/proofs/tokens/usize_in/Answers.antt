use Rattle.std.proofs.Common.{◌≡◌, ◌∙◌, arith, subst, sym, Ok}
use Rattle.std.specs.Str.{IsAscii}
use Rattle.std.proofs.lemmas.Fmt.{IsAscii-decimal_wide, parse-decimal_wide}
use Rattle.bl_log.proofs.Numerals.{not_both, ok_same}
use Rattle.bl_log.proofs.tokens.usize_in.Goals as goal

pub returns-in_default : goal.returns-in_default
returns-in_default c =
    λ n f is. absurd (c.in_default.ensures
    (subst IsAscii (sym is) (IsAscii-decimal_wide n (omega (arith, f)))))

pub returns-in-Ok : goal.returns-in-Ok
returns-in-Ok c = λ n f is.
    let ascii : IsAscii c.args.word.now =
    subst IsAscii (sym is) (IsAscii-decimal_wide n (omega (arith, f))) in
    let parsed : c.parse.result ≡ Ok n = parse-decimal_wide 64 n _ c.parse.result f
    (omega (arith, f)) (c.in-Some.ensures ascii ∙ is) c.parse.ensures.value.0 in
    ok_same c.parse.result c.in-Ok.number n c.in-Ok.is parsed

pub returns-in-Err : goal.returns-in-Err
returns-in-Err c = λ n f is.
    let ascii : IsAscii c.args.word.now =
    subst IsAscii (sym is) (IsAscii-decimal_wide n (omega (arith, f))) in
    let parsed : c.parse.result ≡ Ok n = parse-decimal_wide 64 n _ c.parse.result f
    (omega (arith, f)) (c.in-Some.ensures ascii ∙ is) c.parse.ensures.value.0 in
    absurd (not_both c.parse.result n c.in-Err.field-0 parsed c.in-Err.is)
