-- What a text spells, by its parts.
use Rattle.std.proofs.Common.{◌≡◌, ℕ, ◌+◌, ◌<◌, ◌≤◌, min, Bool, true, false, cond, nat_le}
use Rattle.std.proofs.Common.{nat_abs, ℤ, pos, negsuc, List, [], ◌∷◌, ◌++◌, length, Option, Some}
use Rattle.std.proofs.Common.{None, option_map, Err, refl, ap, ◌∙◌, arith}
use Rattle.std.proofs.lemmas.Bool.Decides.{nat_tests}
use Rattle.bl_num.specs.declared.NumberFault.TheVariants.{Spelling, TooWide}
use Rattle.bl_num.specs.Decimals.{Spelled, is_empty, has_minus, after_sign, digits_of}
use Rattle.bl_num.specs.Decimals.{after_digits, fraction_of, after_fraction, exponent_of, meant}
use Rattle.bl_num.specs.Decimals.{value_of, value_or_fault, decimal_of}
use Rattle.bl_num.specs.Reading.{clipped}

-- the parts of a text whose sign is left out, by the test for digits and by the exponent
abbrev pub parts_by : Bool → Bool → List ℕ → List ℕ → Option ℤ → Option Spelled
parts_by none minus whole fraction exponent =
    cond none None
    (option_map (λ e. record { minus = minus; whole = whole; fraction = fraction; exponent = e })
    exponent)

empty-is : (xs ys : List ℕ) → length xs + length ys ≡ 0 → is_empty (xs ++ ys) ≡ true
empty-is [] [] e = refl
empty-is [] (y ∷ ys) e = absurd (omega arith)
empty-is (x ∷ xs) ys e = absurd (omega arith)

pub filled-is : (xs ys : List ℕ) → ¬ (length xs + length ys ≡ 0) → is_empty (xs ++ ys) ≡ false
filled-is [] [] e = absurd (e (omega arith))
filled-is [] (y ∷ ys) e = refl
filled-is (x ∷ xs) ys e = refl

by_parts : (text : List ℕ) (t : Bool) (o : Option ℤ)
    → is_empty (digits_of (after_sign text) ++ fraction_of (after_digits (after_sign text))) ≡ t →
    exponent_of (after_fraction (after_digits (after_sign text))) ≡ o →
    decimal_of text ≡ value_or_fault (parts_by t (has_minus text) (digits_of (after_sign text))
    (fraction_of (after_digits (after_sign text))) o)
unfolding decimal_of
by_parts text t o e h =
    ap (λ (x : Bool). value_or_fault (parts_by x (has_minus text) (digits_of (after_sign text))
    (fraction_of (after_digits (after_sign text)))
    (exponent_of (after_fraction (after_digits (after_sign text)))))) e
    ∙ ap (λ (x : Option ℤ). value_or_fault
    (parts_by t (has_minus text) (digits_of (after_sign text))
    (fraction_of (after_digits (after_sign text))) x)) h

-- where the reader cut a text
pub record IsCut (text whole fraction tail : List ℕ) : Type 0 where
  pub whole_is : whole ≡ digits_of (after_sign text)
  pub fraction_is : fraction ≡ fraction_of (after_digits (after_sign text))
  pub tail_is : tail ≡ after_fraction (after_digits (after_sign text))

pub is_cut : (text unsigned whole behind fraction tail : List ℕ) → unsigned ≡ after_sign text
    → whole ≡ digits_of unsigned → behind ≡ after_digits unsigned →
    fraction ≡ fraction_of behind → tail ≡ after_fraction behind → IsCut text whole fraction tail
is_cut text unsigned whole behind fraction tail u w b f t =
    record {
      whole_is = w ∙ ap digits_of u;
      fraction_is =
          f ∙ ap fraction_of (b ∙ ap after_digits u);
      tail_is =
          t ∙ ap after_fraction (b ∙ ap after_digits u);
    }

clipped-wide : (z : ℤ) → 27 < nat_abs (clipped z) → 27 < nat_abs z
clipped-wide (pos n) l = omega arith
clipped-wide (negsuc n) l = omega arith

clipped-small : (z : ℤ) → nat_abs (clipped z) ≤ 27 → clipped z ≡ z
clipped-small (pos n) l = let e : min n 28 ≡ n = omega arith in ap pos e
clipped-small (negsuc n) l = let e : min n 27 ≡ n = omega arith in ap negsuc e

module _ (text whole fraction tail : List ℕ) (cut : IsCut text whole fraction tail) where
  cut_by : (t : Bool) (o : Option ℤ) → is_empty (whole ++ fraction) ≡ t → exponent_of tail ≡ o
      → decimal_of text ≡ value_or_fault (parts_by t (has_minus text) whole fraction o)
  cut_by t o e h =
      let w = cut.whole_is in
      let f = cut.fraction_is in
      by_parts text t o (rw (← w, ← f) e) (rw (← cut.tail_is) h) ∙ rw (← w, ← f) refl

  pub reads_no_digit : length whole + length fraction ≡ 0 → decimal_of text ≡ Err Spelling
  reads_no_digit e = cut_by true (exponent_of tail) (empty-is whole fraction e) refl

  pub reads_no_exponent : None ≡ option_map clipped (exponent_of tail) → decimal_of text
      ≡ Err Spelling
  reads_no_exponent e = by (exponent_of tail) (is_empty (whole ++ fraction)) refl refl e where
    by : (o : Option ℤ) (t : Bool) → exponent_of tail ≡ o → is_empty (whole ++ fraction) ≡ t
        → None ≡ option_map clipped o → decimal_of text ≡ Err Spelling
    by None true h k e = cut_by true None k h
    by None false h k e = cut_by false None k h
    by (Some z) t h k e = absurd cc

  wide : (z : ℤ) (s : Spelled) → s.exponent ≡ z → 27 < nat_abs z → value_of s ≡ Err TooWide
  wide z s e l =
      let t : nat_le (nat_abs s.exponent) 27 ≡ false = grind (arith, nat_tests, ap nat_abs e) in
      ap (λ (x : Bool). cond x (meant s.minus (s.whole ++ s.fraction) (length s.fraction)
      s.exponent) (Err TooWide)) t

  pub reads_wide : (x : ℤ) → ¬ (length whole + length fraction ≡ 0) → Some x
      ≡ option_map clipped (exponent_of tail) → 27 < nat_abs x → decimal_of text ≡ Err TooWide
  reads_wide x d e l = by (exponent_of tail) refl e where
    by : (o : Option ℤ) → exponent_of tail ≡ o → Some x ≡ option_map clipped o → decimal_of text
        ≡ Err TooWide
    by None h e = absurd cc
    by (Some z) h e =
        let k : x ≡ clipped z = cc in
        cut_by false (Some z) (filled-is whole fraction d) h
        ∙ wide z (record {
          minus = has_minus text;
          whole = whole;
          fraction = fraction;
          exponent =
              z;
        }) refl (clipped-wide z (rw (← k) l))

  pub reads_meant : (x : ℤ) → ¬ (length whole + length fraction ≡ 0) → Some x
      ≡ option_map clipped (exponent_of tail) → nat_abs x ≤ 27 →
      decimal_of text ≡ meant (has_minus text) (whole ++ fraction) (length fraction) x
  reads_meant x d e l = by (exponent_of tail) refl e where
    by : (o : Option ℤ) → exponent_of tail ≡ o → Some x ≡ option_map clipped o → decimal_of text
        ≡ meant (has_minus text) (whole ++ fraction) (length fraction) x
    by None h e = absurd cc
    by (Some z) h e =
        let k : x ≡ clipped z = cc in
        let n : clipped z ≡ z = clipped-small z (rw (← k) l) in
        let q : x ≡ z = k ∙ n in
        let t : nat_le (nat_abs z) 27 ≡ true = grind (arith, nat_tests, ap nat_abs q) in
        cut_by false (Some z) (filled-is whole fraction d) h
        ∙ ap (λ (y : Bool). cond y (meant (has_minus text) (whole ++ fraction) (length fraction)
        z) (Err TooWide)) t ∙ rw (← q) refl
