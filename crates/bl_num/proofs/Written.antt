-- What is written is spelled, and has the value that was written.
use Rattle.std.proofs.Common.{◌≡◌, ℕ, zero, suc, ◌+◌, ◌-◌, ◌*◌, ◌/◌, ◌%◌, ◌^◌, ◌<◌, Bool, true}
use Rattle.std.proofs.Common.{false, cond, eqb, ◌==◌, List, [], ◌∷◌, ◌++◌, length, ℤ, pos, negsuc}
use Rattle.std.proofs.Common.{nat_abs, inl, inr, refl, sym, ap, ◌∙◌, arith, append_assoc}
use Rattle.std.specs.Fmt.{decimal}
use Rattle.std.proofs.lemmas.Fmt.{decimal_by_steps_wide}
use Rattle.std.proofs.lemmas.Nat.{div-add-mod', mod_below, div_below}
use Rattle.std.proofs.lemmas.Bool.{eqb-true}
use Rattle.std.proofs.lemmas.Bool.Decides.{nat_tests}
use Rattle.std.proofs.lemmas.List.{length_push, append-nil}
use Rattle.std.proofs.lemmas.List.Elements.{All-nil, All-cons, All-head, All-tail, All-push}
use Rattle.std.proofs.lemmas.List.Sums.{fold-append}
use Rattle.bl_num.specs.Decimals.{Spelled, AreDigits, is_digit, whole_number, kept_digit, trimmed}
use Rattle.bl_num.specs.Decimals.{negated_if}
use Rattle.bl_num.specs.Spellings.{IsSign, IsFraction, IsSpelling, digits_number}
use Rattle.bl_num.specs.Texts.{padded, fraction_text, minus_text, text_of}
use Rattle.bl_num.proofs.Digits.{whole_from, whole_push, whole_trimmed}
use Rattle.bl_num.proofs.Padded.{trimmed-padded_zero}
use Rattle.bl_num.proofs.Powers.{ten_pow-more, ten_pow-positive, no_less}
use Rattle.bl_num.proofs.Scaled.{scaled}
use Rattle.bl_num.proofs.ValueLaw.{signed-times}

digit-is : (n : ℕ) → n < 10 → is_digit (48 + n) ≡ true
digit-is n h = grind (arith, nat_tests)

-- digits that spell a whole number
pub record Spells (n : ℕ) (ds : List ℕ) : Type 0 where
  pub are_digits : AreDigits ds
  pub some_digit : 0 < length ds
  pub number : whole_number ds ≡ n

pub decimal-spells : (n : ℕ) → n < 10 ^ 64 → Spells n (decimal n)
decimal-spells = decimal_by_steps_wide Spells
    (λ n h. record {
      are_digits = All-cons (λ d. is_digit d ≡ true) (48 + n) [] (digit-is n h)
          (All-nil (λ d. is_digit d ≡ true));
      some_digit = omega arith;
      number = omega arith;
    })
    (λ n ds h s. record {
      are_digits = All-push (λ d. is_digit d ≡ true) ds (48 + n % 10) s.are_digits
          (digit-is (n % 10) (omega arith));
      some_digit = omega (arith, length_push ds (48 + n % 10));
      number = whole_push ds (48 + n % 10) ∙ omega (arith, s.number);
    })

one_digit : (m q p t r big : ℕ) → q * p + t ≡ r → big ≡ 10 * p → (10 * m + (48 + q - 48)) * p + t
    ≡ m * big + r
one_digit m q p t r big e h =
    let d : 48 + q - 48 ≡ q = omega arith in
    let f : (10 * m + q) * p ≡ 10 * (m * p) + q * p = grind arith in
    let g : m * (10 * p) ≡ 10 * (m * p) = grind arith in
    rw (d, h, f, g) (omega arith)

-- the digits of a fraction
pub record Pads (k r : ℕ) : Type 0 where
  pub are_digits : AreDigits (padded k r)
  pub count : length (padded k r) ≡ k
  pub number : (m : ℕ) → whole_from m (padded k r) ≡ m * 10 ^ k + r

pub padded-pads : (k r : ℕ) → r < 10 ^ k → Pads k r
padded-pads zero r h = record {
  are_digits = All-nil (λ d. is_digit d ≡ true);
  count =
      refl;
  number = λ m. omega arith;
}
padded-pads (suc k) r h =
    let i = padded-pads k (r % 10 ^ k) (mod_below r (10 ^ k) (ten_pow-positive k)) in
    let q : r / 10 ^ k < 10 = div_below r (10 ^ k) 10 (ten_pow-positive k)
    (omega (arith, ten_pow-more k)) in
    record {
      are_digits = All-cons (λ d. is_digit d ≡ true) (48 + r / 10 ^ k) (padded k (r % 10 ^ k))
          (digit-is (r / 10 ^ k) q) i.are_digits;
      count = omega (arith, i.count);
      number = λ m. i.number (10 * m + (48 + r / 10 ^ k - 48))
          ∙ one_digit m (r / 10 ^ k) (10 ^ k) (r % 10 ^ k) r (10 ^ suc k)
          (div-add-mod' r (10 ^ k)) (omega (arith, ten_pow-more k));
    }

trimmed-digits : (ds : List ℕ) → AreDigits ds → AreDigits (trimmed ds)
trimmed-digits [] h = h
trimmed-digits (d ∷ ds) h = by (trimmed ds)
    (trimmed-digits ds (All-tail (λ x. is_digit x ≡ true) d ds h)) where
      at : (t : Bool) → AreDigits (cond t [] (d ∷ []))
      at true = All-nil (λ x. is_digit x ≡ true)
      at false = All-cons (λ x. is_digit x ≡ true) d [] (All-head (λ x. is_digit x ≡ true) d ds h)
          (All-nil (λ x. is_digit x ≡ true))

      by : (kept : List ℕ) → AreDigits kept → AreDigits (kept_digit d kept)
      by [] k = at (eqb d 48)
      by (x ∷ xs) k = All-cons (λ y. is_digit y ≡ true) d (x ∷ xs)
          (All-head (λ y. is_digit y ≡ true) d ds h) k

abbrev pub negative : ℤ → Bool
negative (pos n) = false
negative (negsuc n) = true

-- the parts that `text_of` writes
abbrev pub written : ℤ → ℕ → Spelled
written z places = record {
  minus = negative z;
  whole =
      decimal (nat_abs z / 10 ^ places);
  fraction =
      trimmed (padded places (nat_abs z % 10 ^ places));
  exponent = pos 0;
}

sign-is : (z : ℤ) → IsSign (negative z) (minus_text z)
sign-is (pos n) = inl refl
sign-is (negsuc n) = refl

fraction-is : (places r : ℕ) → IsFraction (trimmed (padded places r)) (fraction_text places r)
fraction-is places r = by (r == 0) refl where
  by : (t : Bool) → (r == 0) ≡ t
      → IsFraction (trimmed (padded places r)) (cond t [] (46 ∷ trimmed (padded places r)))
  by true e = inr (
    ap (λ (n : ℕ). trimmed (padded places n)) (eqb-true r 0 e)
        ∙ trimmed-padded_zero places,
    refl,
  )
  by false e = inl refl

size-below : (n places : ℕ) → n < 10 ^ 64 → n / 10 ^ places < 10 ^ 64
size-below n places h = let m = div-add-mod' n (10 ^ places) in let l =
    no_less (n / 10 ^ places) places in omega arith

-- what is written is spelled so
pub text_of-spelling : (z : ℤ) (places : ℕ) → nat_abs z < 10 ^ 64
    → IsSpelling (written z places) (text_of z places)
unfolding text_of
text_of-spelling z places h =
    let whole = decimal-spells (nat_abs z / 10 ^ places) (size-below (nat_abs z) places h) in
    let rest = padded-pads places (nat_abs z % 10 ^ places)
    (mod_below (nat_abs z) (10 ^ places) (ten_pow-positive places)) in
    record {
      sign = minus_text z;
      fraction = fraction_text places (nat_abs z % 10 ^ places);
      exponent = [];
      is_sign = sign-is z;
      whole_digits = whole.are_digits;
      fraction_digits = trimmed-digits (padded places (nat_abs z % 10 ^ places)) rest.are_digits;
      some_digit = omega (arith, whole.some_digit);
      is_fraction = fraction-is places (nat_abs z % 10 ^ places);
      is_exponent = inr (refl, refl);
      text_is = append_assoc (minus_text z) (decimal (nat_abs z / 10 ^ places))
          (fraction_text places (nat_abs z % 10 ^ places))
          ∙ ap (λ (xs : List ℕ). minus_text z ++ (decimal (nat_abs z / 10 ^ places) ++ xs))
          (sym (append-nil (fraction_text places (nat_abs z % 10 ^ places))));
    }

-- the digits that are written, with as many zeros as were left out, are the number
pub written-number : (z : ℤ) (places : ℕ) → nat_abs z < 10 ^ 64 → z
    ≡ scaled (digits_number (written z places)) (places - length (written z places).fraction)
written-number z places h =
    let n = nat_abs z in
    let q = n / 10 ^ places in
    let r = n % 10 ^ places in
    let whole = decimal-spells q (size-below n places h) in
    let rest = padded-pads places r (mod_below n (10 ^ places) (ten_pow-positive places)) in
    let d = fold-append (λ (a x : ℕ). 10 * a + (x - 48)) 0 (decimal q) (trimmed (padded places r))
    ∙ ap (λ (a : ℕ). whole_from a (trimmed (padded places r))) whole.number in
    let t = whole_trimmed q (padded places r) in
    let e : n ≡ whole_number (decimal q ++ trimmed (padded places r)) * 10 ^
    (places - length (trimmed (padded places r))) =
    sym (div-add-mod' n (10 ^ places)) ∙ sym (rest.number q) ∙ t
    ∙ ap (λ (a : ℕ). a * 10 ^ (length (padded places r) - length (trimmed (padded places r))))
    (sym d)
    ∙ ap (λ (k : ℕ). whole_number (decimal q ++ trimmed (padded places r)) * 10 ^
    (k - length (trimmed (padded places r)))) rest.count in
    signed z ∙ ap (negated_if (negative z)) e ∙ sym
    (signed-times (negative z) (whole_number (decimal q ++ trimmed (padded places r)))
    (10 ^ (places - length (trimmed (padded places r)))))
  where
    signed : (z : ℤ) → z ≡ negated_if (negative z) (nat_abs z)
    signed (pos n) = refl
    signed (negsuc n) = refl
