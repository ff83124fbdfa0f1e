-- Written numbers: they are words, and read back.
use Rattle.std.proofs.Common.{◌≡◌, ◌≢◌, ◌<◌, ◌≤◌, ◌-◌, ◌*◌, ◌^◌, ◌∙◌, ℕ, ℤ, pos, ◌*ℤ◌, Bool, true}
use Rattle.std.proofs.Common.{false, ◌⊎◌, [], ◌∷◌, ◌++◌, length, ap, ap₂, sym, refl, arith}
use Rattle.std.proofs.Common.{⊎_elim, All, subst, length-append, nat_abs}
use Rattle.std.specs.Prelude.{Result, Ok, Err, nat_lt}
use Rattle.std.proofs.lemmas.Bool.{le-ltb}
use Rattle.std.proofs.lemmas.Bool.Decides.{nat_tests}
use Rattle.std.proofs.lemmas.Int.{ints}
use Rattle.std.proofs.lemmas.List.Elements.{All-append, All-cons, All-nil, All-weaker}
use Rattle.bl_num.specs.declared.Decimal.{Decimal}
use Rattle.bl_num.specs.Decimals.{AreDigits, decimal_of, in_units, is_digit}
use Rattle.bl_num.specs.Spellings.{IsExponent, IsFraction, IsSign}
use Rattle.bl_num.specs.declared.NumberFault.{NumberFault}
use Rattle.bl_num.specs.Texts.{text_of}
use Rattle.bl_num.proofs.Readings.{reads_within}
use Rattle.bl_num.proofs.Written.{text_of-spelling, written}
use Rattle.bl_problem.specs.Program.{IsName, IsVisible}
use Rattle.bl_cards.specs.Lines.{bound_at, number_at, number_or_fault, nothing_given}
use Rattle.bl_write.specs.Layout.{Text}

-- ---- they are words

visible : (b : ℕ) → b ≢ 32 → b ≢ 9 → b ≢ 13 → b ≢ 10 → IsVisible b
visible b s t r f = record { space = s; tab = t; return = r; feed = f }

digit_range : (b : ℕ) → is_digit b ≡ true → 48 ≤ b
digit_range b d = grind (arith, nat_tests)

digit_visible : (b : ℕ) → is_digit b ≡ true → IsVisible b
digit_visible b d = let r = digit_range b d in visible b (omega arith) (omega arith) (omega arith)
    (omega arith)

digits_visible : (ds : Text) → AreDigits ds → All IsVisible ds
digits_visible ds h = All-weaker (λ d. is_digit d ≡ true) IsVisible digit_visible ds h

sign_visible : (minus : Bool) (text : Text) → IsSign minus text → All IsVisible text
sign_visible true text h = subst (All IsVisible) (sym h)
    (All-cons IsVisible 45 [] (visible 45 (omega arith) (omega arith) (omega arith) (omega arith))
    (All-nil IsVisible))
sign_visible false text h = ⊎_elim
    (λ e. subst (All IsVisible) (sym e) (All-nil IsVisible))
    (λ e. subst (All IsVisible) (sym e) (All-cons IsVisible 43 []
    (visible 43 (omega arith) (omega arith) (omega arith) (omega arith)) (All-nil IsVisible)))
    h

fraction_visible : (fraction text : Text) → AreDigits fraction → IsFraction fraction text
    → All IsVisible text
fraction_visible fraction text ds h = ⊎_elim
    (λ e. subst (All IsVisible) (sym e) (All-cons IsVisible 46 fraction
    (visible 46 (omega arith) (omega arith) (omega arith) (omega arith))
    (digits_visible fraction ds)))
    (λ e. subst (All IsVisible) (sym e.1) (All-nil IsVisible))
    h

fraction_long : (fraction text : Text) → IsFraction fraction text → length fraction ≤ length text
fraction_long fraction text h = ⊎_elim
    (λ e. subst (λ t. length fraction ≤ length t) (sym e) (omega arith))
    (λ e. subst (λ t. length t ≤ length text) (sym e.0) (omega arith))
    h

letter_visible : (b : ℕ) → ((b ≡ 101) ⊎ (b ≡ 69)) → IsVisible b
letter_visible b h =
    ⊎_elim (λ e. visible b (omega (arith, e)) (omega (arith, e)) (omega (arith, e))
    (omega (arith, e))) (λ e. visible b (omega (arith, e)) (omega (arith, e)) (omega (arith, e))
    (omega (arith, e))) h

exponent_visible : (e : ℤ) (text : Text) → IsExponent e text → All IsVisible text
exponent_visible e text h = ⊎_elim
    (λ p. subst (All IsVisible) (sym p.text_is)
    (All-cons IsVisible p.letter (p.sign ++ p.digits) (letter_visible p.letter p.is_letter)
    (All-append IsVisible p.sign p.digits (sign_visible p.minus p.sign p.is_sign)
    (digits_visible p.digits p.are_digits))))
    (λ p. subst (All IsVisible) (sym p.1) (All-nil IsVisible))
    h

some_of : (text : Text) → 0 < length text → text ≢ []
some_of [] l = absurd (omega arith)
some_of (b ∷ text) l = λ e. absurd cc

-- the text of a number is a word
pub number_name : (z : ℤ) (places : ℕ) → nat_abs z < 10 ^ 64 → IsName (text_of z places)
number_name z places small =
    let s = text_of-spelling z places small in
    let tail = All-append IsVisible s.fraction s.exponent
    (fraction_visible (written z places).fraction s.fraction s.fraction_digits s.is_fraction)
    (exponent_visible (pos 0) s.exponent s.is_exponent) in
    let rest = All-append IsVisible (written z places).whole (s.fraction ++ s.exponent)
    (digits_visible (written z places).whole s.whole_digits) tail in
    let all = All-append IsVisible s.sign ((written z places).whole ++ (s.fraction ++ s.exponent))
    (sign_visible (written z places).minus s.sign s.is_sign) rest in
    let long = fraction_long (written z places).fraction s.fraction s.is_fraction in
    record {
      some = some_of (text_of z places) (subst (λ t. 0 < length t) (sym s.text_is) (omega (
        arith,
        s.some_digit,
        length-append s.sign ((written z places).whole ++ (s.fraction ++ s.exponent)),
        length-append (written z places).whole (s.fraction ++ s.exponent),
        length-append s.fraction s.exponent,
      )));
      visible = subst (All IsVisible) (sym s.text_is) all;
    }

-- ---- they read back

-- what the text of a number reads as
abbrev pub ok_or_none : Result Decimal NumberFault → Decimal
ok_or_none (Ok d) = d
ok_or_none (Err fault) = nothing_given

abbrev pub decimal_in : ℤ → ℕ → Decimal
decimal_in z places = ok_or_none (decimal_of (text_of z places))

pub record ReadsAs (z : ℤ) (places : ℕ) : Type 0 where
  pub read : number_at (text_of z places) ≡ Ok (decimal_in z places)
  pub few : (decimal_in z places).places ≤ places
  pub units : in_units (decimal_in z places) places ≡ z

pub number_reads : (z : ℤ) (places : ℕ) → nat_abs z ≤ 10 ^ 27 → places ≤ 27 → ReadsAs z places
number_reads z places small few =
    let r = reads_within z places small few in
    let is : decimal_in z places ≡ r.0 = ap ok_or_none r.1 in
    record {
      read = ap number_or_fault r.1 ∙ ap Ok (sym is);
      few = subst (λ (d : Decimal). d.places ≤ places) (sym is) r.2;
      units = subst (λ (d : Decimal). in_units d places ≡ z) (sym is) r.3;
    }

times_one : (m : ℤ) → m *ℤ pos 1 ≡ m
times_one m = omega (arith, ints)

-- a whole number reads as itself
pub whole_reads : (z : ℤ) → nat_abs z ≤ 10 ^ 27 → decimal_in z 0
    ≡ record { mantissa = z; places = 0 }
whole_reads z small =
    let r = number_reads z 0 small (omega arith) in
    let none : (decimal_in z 0).places ≡ 0 = omega (arith, r.few) in
    let one : 0 - (decimal_in z 0).places ≡ 0 = omega (arith, none) in
    let same : (decimal_in z 0).mantissa ≡ z = sym (times_one (decimal_in z 0).mantissa)
    ∙ ap (λ k. (decimal_in z 0).mantissa *ℤ pos (10 ^ k)) (sym one) ∙ r.units in
    ap₂ (λ (m : ℤ) (p : ℕ). record { mantissa = m; places = p }) same none

-- a bound reads as itself
pub bound_reads : (z : ℤ) → nat_abs z ≤ 10 ^ 9 → bound_at (text_of z 0) ≡ Ok z
bound_reads z small =
    let near : nat_lt (10 ^ 9 * 10 ^ 0) (nat_abs z) ≡ false =
    le-ltb (10 ^ 9 * 10 ^ 0) (nat_abs z) small in
    rw ((number_reads z 0 (omega arith) (omega arith)).read, whole_reads z (omega arith))
    (rw near refl)
