-- Numbers as they are written.
use Rattle.std.proofs.Common.{◌≡◌, ◌<◌, ◌≤◌, ◌+◌, ◌%◌, ◌^◌, ◌∙◌, ℕ, ℤ, pos, negsuc, suc, [], ◌∷◌}
use Rattle.std.proofs.Common.{length, ap, sym, subst, arith}
use Rattle.std.specs.Prelude.{All, FitsSigned}
use Rattle.std.specs.Int.{w64, w128}
use Rattle.std.specs.Fmt.{decimal, signed_decimal}
use Rattle.std.specs.Str.Parse.{digits_value}
use Rattle.std.proofs.lemmas.Fmt.{decimal_by_steps_wide, decimal_is_IsNumeral_wide}
use Rattle.std.proofs.lemmas.List.Elements.{All-cons, All-head, All-nil, All-push, All-weaker}
use Rattle.std.proofs.lemmas.List.{length-append}
use Rattle.bl_log.specs.Spaced.{Text}
use Rattle.bl_log.proofs.Words.{IsPlain, IsSeen}

abbrev IsAbove : ℕ → Type 0
IsAbove b = 48 ≤ b

record IsNumberText (n : ℕ) (ds : Text) : Type 0 where
  some : 0 < length ds
  above : All IsAbove ds

number_text : (n : ℕ) → n < 10 ^ 64 → IsNumberText n (decimal n)
number_text = decimal_by_steps_wide IsNumberText
    (λ m small. record {
      some = omega arith;
      above =
          All-cons IsAbove (48 + m) [] (omega arith) (All-nil IsAbove);
    })
    (λ m ds large h. record {
      some = omega (arith, h.some, length-append ds ((48 + m % 10) ∷ []));
      above = All-push IsAbove ds (48 + m % 10) h.above (omega arith);
    })

seen : (ds : Text) → All IsAbove ds → All IsSeen ds
seen ds h = All-weaker IsAbove IsSeen (λ b above. omega (arith, above)) ds h

pub decimal_plain : (n : ℕ) → n < 10 ^ 64 → IsPlain (decimal n)
decimal_plain n small = let h =
    number_text n small in record { some = h.some; seen = seen (decimal n) h.above }

pub decimal_one : (m n : ℕ) → m < 10 ^ 64 → n < 10 ^ 64 → decimal m ≡ decimal n → m ≡ n
decimal_one m n p q e = sym (decimal_is_IsNumeral_wide m p).1 ∙ ap (digits_value 10) e
    ∙ (decimal_is_IsNumeral_wide n q).1

-- the size of a number of at most 128 bits
abbrev size : ℤ → ℕ
size (pos n) = n
size (negsuc n) = suc n

abbrev pub IsWide : ℤ → Type 0
IsWide z = size z < 10 ^ 64

pub wide64 : (z : ℤ) → FitsSigned w64 z → IsWide z
wide64 (pos n) f = omega (arith, f.sfits)
wide64 (negsuc n) f = omega (arith, f.sfits)

pub wide128 : (z : ℤ) → FitsSigned w128 z → IsWide z
wide128 (pos n) f = omega (arith, f.sfits)
wide128 (negsuc n) f = omega (arith, f.sfits)

pub signed_plain : (z : ℤ) → IsWide z → IsPlain (signed_decimal z)
signed_plain (pos n) small = decimal_plain n small
signed_plain (negsuc n) small =
    let h = decimal_plain (suc n) small in
    record { some = omega arith; seen = All-cons IsSeen 45 (decimal (suc n)) (omega arith) h.seen }

no_minus : (n : ℕ) (ds : Text) → n < 10 ^ 64 → decimal n ≡ 45 ∷ ds → ⊥
no_minus n ds small e =
    omega (
      arith,
      All-head IsAbove 45 ds
          (subst (λ (t : Text). All IsAbove t) e (number_text n small).above),
    )

behind : (x y : ℕ) (xs ys : Text) → x ∷ xs ≡ y ∷ ys → xs ≡ ys
behind x y xs ys e = cc

pub signed_one : (y z : ℤ) → IsWide y → IsWide z → signed_decimal y ≡ signed_decimal z → y ≡ z
signed_one (pos m) (pos n) p q e = ap pos (decimal_one m n p q e)
signed_one (pos m) (negsuc n) p q e = absurd (no_minus m (decimal (suc n)) p e)
signed_one (negsuc m) (pos n) p q e = absurd (no_minus n (decimal (suc m)) q (sym e))
signed_one (negsuc m) (negsuc n) p q e =
    ap negsuc (let s : suc m ≡ suc n =
    decimal_one (suc m) (suc n) p q (behind 45 45 _ _ e) in omega (arith, s))
