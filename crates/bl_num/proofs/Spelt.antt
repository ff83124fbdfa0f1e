-- A text that is put together from a sign, digits, a point and an exponent has these parts, and
-- a text that has parts is so put together.
use Rattle.std.proofs.Common.{◌≡◌, ◌≢◌, ◌⊎◌, ℕ, ◌+◌, ◌<◌, ◌≤◌, Bool, true, false, cond, ◌||◌}
use Rattle.std.proofs.Common.{◌==◌, ℤ, List, [], ◌∷◌, ◌++◌, length, Some, None, refl, sym, ap}
use Rattle.std.proofs.Common.{subst, ◌∙◌, arith, ⊎_elim}
use Rattle.std.proofs.lemmas.Bool.{ne_eqb}
use Rattle.std.proofs.lemmas.Bool.Decides.{nat_tests}
use Rattle.std.proofs.lemmas.List.Elements.{All-head, All-tail}
use Rattle.std.proofs.lemmas.List.Sums.{take_while-cons}
use Rattle.std.proofs.lemmas.List.{append-nil}
use Rattle.bl_num.specs.Decimals.{Spelled, AreDigits, is_digit, is_empty, has_minus, after_sign}
use Rattle.bl_num.specs.Decimals.{digits_of, after_digits, fraction_of, after_fraction, power_of}
use Rattle.bl_num.specs.Decimals.{exponent_of, parts_of, spelled_of, negated_if, whole_number}
use Rattle.bl_num.specs.Spellings.{IsSign, IsFraction, IsExponent, IsSpelling}
use Rattle.bl_num.proofs.Fronts.{power_of-digits}
use Rattle.bl_num.proofs.DecimalSteps.{filled-is}

-- ---- put together

abbrev begins_with_digit : List ℕ → Bool
begins_with_digit [] = false
begins_with_digit (b ∷ bs) = is_digit b

digits-none : (tail : List ℕ) → begins_with_digit tail ≡ false → digits_of tail ≡ []
digits-none [] e = refl
digits-none (b ∷ bs) e = take_while-cons is_digit b bs
    ∙ ap (λ (t : Bool). cond t (b ∷ digits_of bs) []) e

digits_of-append : (ds tail : List ℕ) → AreDigits ds → begins_with_digit tail ≡ false
    → digits_of (ds ++ tail) ≡ ds
digits_of-append [] tail h e = digits-none tail e
digits_of-append (d ∷ ds) tail h e =
    take_while-cons is_digit d (ds ++ tail)
    ∙ ap (λ (t : Bool). cond t (d ∷ digits_of (ds ++ tail)) [])
    (All-head (λ x. is_digit x ≡ true) d ds h)
    ∙ ap (λ (xs : List ℕ). d ∷ xs)
    (digits_of-append ds tail (All-tail (λ x. is_digit x ≡ true) d ds h) e)

behind-none : (tail : List ℕ) → begins_with_digit tail ≡ false → after_digits tail ≡ tail
behind-none [] e = refl
behind-none (b ∷ bs) e = ap (λ (t : Bool). cond t (after_digits bs) (b ∷ bs)) e

after_digits-append : (ds tail : List ℕ) → AreDigits ds → begins_with_digit tail ≡ false
    → after_digits (ds ++ tail) ≡ tail
after_digits-append [] tail h e = behind-none tail e
after_digits-append (d ∷ ds) tail h e =
    ap (λ (t : Bool). cond t (after_digits (ds ++ tail)) (d ∷ (ds ++ tail)))
    (All-head (λ x. is_digit x ≡ true) d ds h)
    ∙ after_digits-append ds tail (All-tail (λ x. is_digit x ≡ true) d ds h) e

-- neither a point nor an exponent begins with a digit
letter_no_digit : (letter : ℕ) → (letter ≡ 101) ⊎ (letter ≡ 69) → is_digit letter ≡ false
letter_no_digit letter h = ⊎_elim (λ e. ap is_digit e) (λ e. ap is_digit e) h

exponent_no_digit : (e : ℤ) (text : List ℕ) → IsExponent e text → begins_with_digit text ≡ false
exponent_no_digit e text h = ⊎_elim (λ p. ap begins_with_digit p.text_is
    ∙ letter_no_digit p.letter p.is_letter) (λ p. ap begins_with_digit p.1) h

fraction_no_digit : (fraction text rest : List ℕ) → IsFraction fraction text
    → begins_with_digit rest ≡ false → begins_with_digit (text ++ rest) ≡ false
fraction_no_digit fraction text rest h e = ⊎_elim
    (λ p. ap (λ (xs : List ℕ). begins_with_digit (xs ++ rest)) p)
    (λ p. ap (λ (xs : List ℕ). begins_with_digit (xs ++ rest)) p.1 ∙ e) h

-- the byte 46 is no letter of an exponent
letter_no_point : (letter : ℕ) → (letter ≡ 101) ⊎ (letter ≡ 69) → (letter == 46) ≡ false
letter_no_point letter h =
    ⊎_elim (λ e. ap (λ (b : ℕ). b == 46) e) (λ e. ap (λ (b : ℕ). b == 46) e) h

fraction-none : (e : ℤ) (text : List ℕ) → IsExponent e text → (fraction_of text ≡ [])
    × (after_fraction text ≡ text)
fraction-none e text h = ⊎_elim
    (λ p. let q = letter_no_point p.letter p.is_letter in (
      ap fraction_of p.text_is ∙ ap (λ (t : Bool). cond t (digits_of (p.sign ++ p.digits)) []) q,
      ap after_fraction p.text_is ∙ ap (λ (t : Bool). cond t (after_digits (p.sign ++ p.digits))
          (p.letter ∷ (p.sign ++ p.digits))) q ∙ sym p.text_is,
    ))
    (λ p. (ap fraction_of p.1, ap after_fraction p.1 ∙ sym p.1)) h

fraction_is : (fraction text : List ℕ) (e : ℤ) (rest : List ℕ) → AreDigits fraction
    → IsFraction fraction text → IsExponent e rest → (fraction_of (text ++ rest) ≡ fraction)
    × (after_fraction (text ++ rest) ≡ rest)
fraction_is fraction text e rest d h k = ⊎_elim
    (λ p. (
      ap (λ (xs : List ℕ). fraction_of (xs ++ rest)) p
          ∙ digits_of-append fraction rest d (exponent_no_digit e rest k),
      ap (λ (xs : List ℕ). after_fraction (xs ++ rest)) p
          ∙ after_digits-append fraction rest d (exponent_no_digit e rest k),
    ))
    (λ p. let n = fraction-none e rest k in (
      ap (λ (xs : List ℕ). fraction_of (xs ++ rest)) p.1 ∙ n.0
          ∙ sym p.0,
      ap (λ (xs : List ℕ). after_fraction (xs ++ rest)) p.1 ∙ n.1,
    )) h

-- a text that does not begin with a sign
record BeginsUnsigned (text : List ℕ) : Type 0 where
  no_minus : has_minus text ≡ false
  no_sign : after_sign text ≡ text

unsigned-byte : (b : ℕ) (bs : List ℕ) → b ≢ 43 → b ≢ 45 → BeginsUnsigned (b ∷ bs)
unsigned-byte b bs p m =
    let e = ne_eqb b 43 p in
    let f = ne_eqb b 45 m in
    record {
      no_minus = f;
      no_sign = ap (λ (t : Bool). cond (t || b == 45) bs (b ∷ bs)) e
          ∙ ap (λ (t : Bool). cond (false || t) bs (b ∷ bs)) f;
    }

digit-least : (b : ℕ) → is_digit b ≡ true → 48 ≤ b
digit-least b e = grind (arith, nat_tests)

unsigned : (whole fraction text rest : List ℕ) → AreDigits whole → 0 < length whole
    + length fraction → IsFraction fraction text → BeginsUnsigned (whole ++ (text ++ rest))
unsigned (d ∷ ds) fraction text rest h l k =
    let n = digit-least d (All-head (λ x. is_digit x ≡ true) d ds h) in
    unsigned-byte d (ds ++ (text ++ rest)) (λ e. omega arith) (λ e. omega arith)
unsigned [] fraction text rest h l k = ⊎_elim
    (λ p. let q = ap (λ (xs : List ℕ). xs ++ rest) (sym p) in subst BeginsUnsigned q
    (unsigned-byte 46 (fraction ++ rest) (λ e. absurd (omega arith))
    (λ e. absurd (omega arith))))
    (λ p. let n = ap length p.0 in absurd (omega arith)) k

sign_is : (minus : Bool) (sign rest : List ℕ) → IsSign minus sign → BeginsUnsigned rest
    → (has_minus (sign ++ rest) ≡ minus) × (after_sign (sign ++ rest) ≡ rest)
sign_is true sign rest h u = (
  ap (λ (xs : List ℕ). has_minus (xs ++ rest)) h,
  ap (λ (xs : List ℕ). after_sign (xs ++ rest))
      h,
)
sign_is false sign rest h u = ⊎_elim
    (λ p. (
      ap (λ (xs : List ℕ). has_minus (xs ++ rest)) p
          ∙ u.no_minus,
      ap (λ (xs : List ℕ). after_sign (xs ++ rest)) p ∙ u.no_sign,
    ))
    (λ p. (
      ap (λ (xs : List ℕ). has_minus (xs ++ rest)) p,
      ap
          (λ (xs : List ℕ). after_sign (xs ++ rest)) p,
    )) h

unsigned-digits : (ds : List ℕ) → AreDigits ds → 0 < length ds → BeginsUnsigned ds
unsigned-digits [] h l = absurd (omega arith)
unsigned-digits (d ∷ ds) h l =
    let n = digit-least d (All-head (λ x. is_digit x ≡ true) d ds h) in
    unsigned-byte d ds (λ e. omega arith) (λ e. omega arith)

power_is : (minus : Bool) (ds : List ℕ) → AreDigits ds → 0 < length ds → power_of minus ds
    ≡ Some (negated_if minus (whole_number ds))
power_is minus ds h l =
    let e = ap digits_of (append-nil ds) in
    let f = sym (ap after_digits (append-nil ds)) ∙ after_digits-append ds [] h refl in
    let g = sym e ∙ digits_of-append ds [] h refl in
    power_of-digits minus ds l (ap length f)
    ∙ ap (λ (xs : List ℕ). Some (negated_if minus (whole_number xs))) g

exponent_is : (e : ℤ) (text : List ℕ) → IsExponent e text → exponent_of text ≡ Some e
exponent_is e text h = ⊎_elim
    (λ p. let s = sign_is p.minus p.sign p.digits p.is_sign
    (unsigned-digits p.digits p.are_digits p.some_digit) in
    let t : (p.letter == 101 || p.letter == 69) ≡ true =
    ⊎_elim (λ q. ap (λ (b : ℕ). b == 101 || b == 69) q)
    (λ q. ap (λ (b : ℕ). b == 101 || b == 69) q) p.is_letter in
    ap exponent_of p.text_is
    ∙ ap (λ (x : Bool). cond x (power_of (has_minus (p.sign ++ p.digits))
    (after_sign (p.sign ++ p.digits))) None) t
    ∙ ap (λ (x : Bool). power_of x (after_sign (p.sign ++ p.digits))) s.0
    ∙ ap (λ (x : List ℕ). power_of p.minus x) s.1
    ∙ power_is p.minus p.digits p.are_digits p.some_digit
    ∙ ap Some (sym p.value))
    (λ p. ap exponent_of p.1 ∙ ap Some (sym p.0)) h

parts_by_values : (minus : Bool) (whole fraction : List ℕ) (e : ℤ) (text : List ℕ) → 0
    < length whole + length fraction →
    digits_of text ≡ whole → fraction_of (after_digits text) ≡ fraction
    → exponent_of (after_fraction (after_digits text)) ≡ Some e →
    parts_of minus text ≡ Some
    (record { minus = minus; whole = whole; fraction = fraction; exponent = e })
parts_by_values minus whole fraction e text l w f x =
    let t : is_empty (whole ++ fraction) ≡ false = filled-is whole fraction (λ z. omega arith) in
    rw (w, f, x, t) refl

-- a text that is put together has the parts that it is put together from
pub spelled_of-spelling : (s : Spelled) (text : List ℕ) → IsSpelling s text → spelled_of text
    ≡ Some s
spelled_of-spelling s text h =
    let rest = s.whole ++ (h.fraction ++ h.exponent) in
    let tail = h.fraction ++ h.exponent in
    let u = unsigned s.whole s.fraction h.fraction h.exponent h.whole_digits h.some_digit
    h.is_fraction in
    let g = sign_is s.minus h.sign rest h.is_sign u in
    let n = fraction_no_digit s.fraction h.fraction h.exponent h.is_fraction
    (exponent_no_digit s.exponent h.exponent h.is_exponent) in
    let w = digits_of-append s.whole tail h.whole_digits n in
    let b = after_digits-append s.whole tail h.whole_digits n in
    let f = fraction_is s.fraction h.fraction s.exponent h.exponent h.fraction_digits
    h.is_fraction h.is_exponent in
    let x = exponent_is s.exponent h.exponent h.is_exponent in
    ap spelled_of h.text_is
    ∙ ap (λ (m : Bool). parts_of m (after_sign (h.sign ++ rest))) g.0
    ∙ ap (λ (xs : List ℕ). parts_of s.minus xs) g.1
    ∙ parts_by_values s.minus s.whole s.fraction s.exponent rest h.some_digit w
    (ap fraction_of b ∙ f.0) (ap (λ (xs : List ℕ). exponent_of (after_fraction xs)) b
    ∙ ap exponent_of f.1 ∙ x)
