-- Numbers as they are read.
use Rattle.std.proofs.Common.{◌≡◌, ◌<◌, ◌^◌, ◌∙◌, ℕ, ℤ, pos, negsuc, neg_ℤ, zero, suc, List, ◌∷◌}
use Rattle.std.proofs.Common.{ap, sym, subst, refl, arith, Ok, Err, is_ok, true≢false}
use Rattle.std.specs.Prelude.{FitsSigned, Result}
use Rattle.std.specs.Int.{w64, w128}
use Rattle.std.specs.Int.Signed.{mag}
use Rattle.std.specs.Fmt.{decimal, signed_decimal}
use Rattle.std.specs.Str.{IsAscii}
use Rattle.std.specs.Str.Parse.{ParsesSigned}
use Rattle.std.proofs.lemmas.Fmt.{IsAscii-decimal_wide, decimal_is_IsNumeral_wide}
use Rattle.std.proofs.lemmas.Str.Parse.{numerals_by_value, parse_signed_digits}
use Rattle.std.proofs.lemmas.Str.Parse.{parse_signed_minus, tells_digits}
use Rattle.std.proofs.lemmas.Result.{Ok-from_Ok_iff}
use Rattle.bl_log.proofs.Numbers.{IsWide}

pub ok_same : {X E : Type 0} (r : Result X E) (x y : X) → r ≡ Ok x → r ≡ Ok y → x ≡ y
ok_same r x y e f = let same = sym e ∙ f in cc

pub not_both : {X E : Type 0} (r : Result X E) (x : X) (y : E) → r ≡ Ok x → r ≡ Err y → ⊥
not_both r x y e f = true≢false (sym (ap is_ok e) ∙ ap is_ok f)

pub signed_ascii : (z : ℤ) → IsWide z → IsAscii (signed_decimal z)
signed_ascii (pos n) h i = IsAscii-decimal_wide n h i
signed_ascii (negsuc n) h zero = omega arith
signed_ascii (negsuc n) h (suc i) = IsAscii-decimal_wide (suc n) h i

pub mag64 : (z : ℤ) → FitsSigned w64 z → mag z < 2 ^ 63
mag64 (pos n) f = omega (arith, f.sfits)
mag64 (negsuc n) f = omega (arith, f.sfits)

-- what is written of a number of 128 bits is read as this number
pub parse128 : {E : Type 0} (z : ℤ) (bs : List ℕ) (r : Result ℤ E) → FitsSigned w128 z → bs
    ≡ signed_decimal z → ParsesSigned w128 10 bs r → r ≡ Ok z
parse128 (pos n) bs r fits is h =
    let k = decimal_is_IsNumeral_wide n (omega (arith, fits.sfits)) in
    let read = parse_signed_digits (numerals_by_value _ tells_digits) w128 (decimal n) r
    (subst (λ l. ParsesSigned w128 10 l r) is h) k.0.1 in
    Ok-from_Ok_iff r _ _ read (k.0.0, omega (arith, k.1, fits.sfits)) ∙ ap (λ m. Ok (pos m)) k.1
parse128 (negsuc n) bs r fits is h =
    let k = decimal_is_IsNumeral_wide (suc n) (omega (arith, fits.sfits)) in
    let read = parse_signed_minus (numerals_by_value _ tells_digits) w128 (45 ∷ decimal (suc n)) r
    (subst (λ l. ParsesSigned w128 10 l r) is h) refl in
    Ok-from_Ok_iff r _ _ read (k.0.1, k.0.0, omega (arith, k.1, fits.sfits))
    ∙ ap (λ m. Ok (neg_ℤ (pos m))) k.1
