-- A text that has the parts of a number is put together from them.
use Rattle.std.proofs.Common.{◌≡◌, ◌⊎◌, ℕ, ◌+◌, ◌<◌, Bool, true, false, cond, not, ◌&&◌, ◌||◌}
use Rattle.std.proofs.Common.{◌==◌, ℤ, pos, List, [], ◌∷◌, ◌++◌, length, Option, Some, None}
use Rattle.std.proofs.Common.{option_map, inl, inr, refl, sym, ap, subst, ◌∙◌, arith}
use Rattle.std.proofs.lemmas.Bool.{eqb-true}
use Rattle.std.proofs.lemmas.List.Elements.{All-nil}
use Rattle.bl_num.specs.Decimals.{Spelled, AreDigits, is_digit, is_empty, has_minus, after_sign}
use Rattle.bl_num.specs.Decimals.{digits_of, after_digits, fraction_of, after_fraction, power_of}
use Rattle.bl_num.specs.Decimals.{exponent_of, spelled_of, negated_if, whole_number}
use Rattle.bl_num.specs.Spellings.{IsSign, IsFraction, IsPower, IsExponent, IsSpelling}
use Rattle.bl_num.proofs.Fronts.{digits_of-digits, front-behind, all_digits}

-- the sign that a text begins with
record SignOf (text : List ℕ) : Type 0 where
  sign : List ℕ
  is_sign : IsSign (has_minus text) sign
  text_is : text ≡ sign ++ after_sign text

abbrev BytesSign : Bool → ℕ → List ℕ → List ℕ → Type 0
BytesSign minus b bs rest = (sign : List ℕ) × IsSign minus sign × (b ∷ bs ≡ sign ++ rest)

by_minus : (b : ℕ) (bs : List ℕ) (m : Bool) → (b == 45) ≡ m → (p : Bool) → (b == 43) ≡ p
    → BytesSign m b bs (cond (p || m) bs (b ∷ bs))
by_minus b bs true e true f = (45 ∷ [], refl, ap (λ (x : ℕ). x ∷ bs) (eqb-true b 45 e))
by_minus b bs true e false f = (45 ∷ [], refl, ap (λ (x : ℕ). x ∷ bs) (eqb-true b 45 e))
by_minus b bs false e true f = (43 ∷ [], inr refl, ap (λ (x : ℕ). x ∷ bs) (eqb-true b 43 f))
by_minus b bs false e false f = ([], inl refl, refl)

sign_of : (text : List ℕ) → SignOf text
sign_of [] = record { sign = []; is_sign = inl refl; text_is = refl }
sign_of (b ∷ bs) =
    let s = by_minus b bs (b == 45) refl (b == 43) refl in
    record { sign = s.0; is_sign = s.1; text_is = s.2 }

record FractionOf (rest : List ℕ) : Type 0 where
  text : List ℕ
  is_fraction : IsFraction (fraction_of rest) text
  rest_is : rest ≡ text ++ after_fraction rest

abbrev BytesFraction : Bool → ℕ → List ℕ → Type 0
BytesFraction t b bs = (text : List ℕ) × IsFraction (cond t (digits_of bs) []) text
    × (b ∷ bs ≡ text ++ cond t (after_digits bs) (b ∷ bs))

by_point : (b : ℕ) (bs : List ℕ) (t : Bool) → (b == 46) ≡ t → BytesFraction t b bs
by_point b bs true e = (
  46 ∷ digits_of bs,
  inl refl,
  ap (λ (x : ℕ). x ∷ bs) (eqb-true b 46 e)
      ∙ ap (λ (xs : List ℕ). 46 ∷ xs) (sym (front-behind bs)),
)
by_point b bs false e = ([], inr (refl, refl), refl)

fraction_text : (rest : List ℕ) → FractionOf rest
fraction_text [] = record { text = []; is_fraction = inr (refl, refl); rest_is = refl }
fraction_text (b ∷ bs) =
    let s = by_point b bs (b == 46) refl in
    record { text = s.0; is_fraction = s.1; rest_is = s.2 }

-- what a power asks
record PowerOf (minus : Bool) (ds : List ℕ) (e : ℤ) : Type 0 where
  some_digit : 0 < length ds
  all : length (after_digits ds) ≡ 0
  value : e ≡ negated_if minus (whole_number ds)

power_by : (minus : Bool) (ds : List ℕ) (e : ℤ) (empty rest_empty : Bool) → is_empty ds ≡ empty
    → is_empty (after_digits ds) ≡ rest_empty →
    cond (not empty && rest_empty) (Some (negated_if minus (whole_number ds))) None ≡ Some e
    → PowerOf minus ds e
power_by minus ds e true r h k p = absurd cc
power_by minus ds e false false h k p = absurd cc
power_by minus ds e false true h k p =
    record { some_digit = some ds h; all = none (after_digits ds) k; value = cc } where
      some : (xs : List ℕ) → is_empty xs ≡ false → 0 < length xs
      some [] q = absurd cc
      some (x ∷ xs) q = omega arith

      none : (xs : List ℕ) → is_empty xs ≡ true → length xs ≡ 0
      none [] q = refl
      none (x ∷ xs) q = absurd cc

spelt_power : (b : ℕ) (bs : List ℕ) (e : ℤ) → (b ≡ 101) ⊎ (b ≡ 69)
    → power_of (has_minus bs) (after_sign bs) ≡ Some e → IsPower e (b ∷ bs)
spelt_power b bs e l x =
    let s = sign_of bs in
    let p = power_by (has_minus bs) (after_sign bs) e (is_empty (after_sign bs))
    (is_empty (after_digits (after_sign bs))) refl refl x in
    record {
      letter = b;
      minus = has_minus bs;
      sign = s.sign;
      digits = after_sign bs;
      is_letter = l;
      is_sign = s.is_sign;
      are_digits = subst AreDigits (all_digits (after_sign bs) p.all)
          (digits_of-digits (after_sign bs));
      some_digit = p.some_digit;
      value = p.value;
      text_is = ap (λ (xs : List ℕ). b ∷ xs) s.text_is;
    }

letter_by : (b : ℕ) (bs : List ℕ) (e : ℤ) (p q : Bool) → (b == 101) ≡ p → (b == 69) ≡ q
    → cond (p || q) (power_of (has_minus bs) (after_sign bs)) None ≡ Some e → IsPower e (b ∷ bs)
letter_by b bs e false false h k x = absurd cc
letter_by b bs e true q h k x = spelt_power b bs e (inl (eqb-true b 101 h)) x
letter_by b bs e false true h k x = spelt_power b bs e (inr (eqb-true b 69 k)) x

exponent_text : (text : List ℕ) (e : ℤ) → exponent_of text ≡ Some e → IsExponent e text
exponent_text [] e h = inr (let z : pos 0 ≡ e = cc in sym z, refl)
exponent_text (b ∷ bs) e h = inl (letter_by b bs e (b == 101) (b == 69) refl refl h)

-- what the parts of a text whose sign is left out ask
record PartsOf (minus : Bool) (text : List ℕ) (s : Spelled) : Type 0 where
  some_digit : 0 < length s.whole + length s.fraction
  minus_is : s.minus ≡ minus
  whole_is : s.whole ≡ digits_of text
  fraction_is : s.fraction ≡ fraction_of (after_digits text)
  exponent_is : exponent_of (after_fraction (after_digits text)) ≡ Some s.exponent

some-digit : (xs ys : List ℕ) → is_empty (xs ++ ys) ≡ false → 0 < length xs + length ys
some-digit [] [] e = absurd cc
some-digit [] (y ∷ ys) e = omega arith
some-digit (x ∷ xs) ys e = omega arith

parts_by_test : (minus : Bool) (text : List ℕ) (s : Spelled) (t : Bool) (o : Option ℤ)
    → is_empty (digits_of text ++ fraction_of (after_digits text)) ≡ t →
    exponent_of (after_fraction (after_digits text)) ≡ o →
    cond t None
    (option_map (λ e. record {
      minus = minus;
      whole = digits_of text;
      fraction =
          fraction_of (after_digits text);
      exponent = e;
    }) o) ≡ Some s → PartsOf minus text s
parts_by_test minus text s true o h k e = absurd cc
parts_by_test minus text s false None h k e = absurd cc
parts_by_test minus text s false (Some x) h k e =
    let q : record {
      minus = minus;
      whole = digits_of text;
      fraction =
          fraction_of (after_digits text);
      exponent = x;
    } ≡ s = cc in
    subst (PartsOf minus text) q
    (record {
      some_digit = some-digit (digits_of text) (fraction_of (after_digits text)) h;
      minus_is = refl;
      whole_is = refl;
      fraction_is = refl;
      exponent_is = k;
    })

fraction-digits : (rest : List ℕ) → AreDigits (fraction_of rest)
fraction-digits [] = All-nil (λ d. is_digit d ≡ true)
fraction-digits (b ∷ bs) = by (b == 46) where
  by : (t : Bool) → AreDigits (cond t (digits_of bs) [])
  by true = digits_of-digits bs
  by false = All-nil (λ d. is_digit d ≡ true)

-- a text that has parts is put together from them
pub spelling-spelled_of : (s : Spelled) (text : List ℕ) → spelled_of text ≡ Some s
    → IsSpelling s text
spelling-spelled_of s text e =
    let bare = after_sign text in
    let rest = after_digits bare in
    let p = parts_by_test (has_minus text) bare s (is_empty (digits_of bare ++ fraction_of rest))
    (exponent_of (after_fraction rest)) refl refl e in
    let g = sign_of text in
    let f = fraction_text rest in
    let whole : bare ≡ s.whole ++ (f.text ++ after_fraction rest) = sym (front-behind bare)
    ∙ ap (λ (xs : List ℕ). xs ++ rest) (sym p.whole_is)
    ∙ ap (λ (xs : List ℕ). s.whole ++ xs) f.rest_is in
    record {
      sign = g.sign;
      fraction = f.text;
      exponent = after_fraction rest;
      is_sign = subst (λ (m : Bool). IsSign m g.sign) (sym p.minus_is) g.is_sign;
      whole_digits = subst AreDigits (sym p.whole_is) (digits_of-digits bare);
      fraction_digits = subst AreDigits (sym p.fraction_is) (fraction-digits rest);
      some_digit = p.some_digit;
      is_fraction = subst (λ (xs : List ℕ). IsFraction xs f.text) (sym p.fraction_is) f.is_fraction;
      is_exponent = exponent_text (after_fraction rest) s.exponent p.exponent_is;
      text_is = g.text_is ∙ ap (λ (xs : List ℕ). g.sign ++ xs) whole;
    }
