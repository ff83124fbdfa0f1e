-- What a text reads as, and what is read back.
use Rattle.std.proofs.Common.{true, ◌≡◌, ℕ, ◌+◌, ◌-◌, ◌%◌, ◌^◌, ◌<◌, ◌≤◌, List, length, ℤ, pos}
use Rattle.std.proofs.Common.{negsuc, nat_abs, FitsSigned, Option, Some, None, Result, Ok, Err}
use Rattle.std.proofs.Common.{refl, sym, ap, subst, ◌∙◌, arith, ⊎_elim}
use Rattle.std.specs.Prelude.{IfOk}
use Rattle.std.specs.Int.{w128}
use Rattle.std.proofs.lemmas.List.Elements.{All-append}
use Rattle.bl_num.specs.declared.Decimal.{Decimal}
use Rattle.bl_num.specs.declared.NumberFault.{NumberFault}
use Rattle.bl_num.specs.declared.NumberFault.TheVariants.{Spelling}
use Rattle.bl_num.specs.Decimals.{Spelled, is_digit, spelled_of, value_of, value_or_fault}
use Rattle.bl_num.specs.Decimals.{decimal_of, in_units}
use Rattle.bl_num.specs.Spellings.{IsSpelling, HasValue, IsCanonical, IsWithinLimits, ReadsValue}
use Rattle.bl_num.specs.Spellings.{digits_number}
use Rattle.bl_num.specs.Texts.{text_of, padded}
use Rattle.bl_num.specs.Laws.{ReadsSpelled, RefusesOthers, UnitsKeepValue, ReadsBack}
use Rattle.bl_num.specs.Laws.{WritesReadably, ReadsWithinLimits, CanonicalReadsBack}
use Rattle.bl_num.proofs.Spelt.{spelled_of-spelling}
use Rattle.bl_num.proofs.Apart.{spelling-spelled_of}
use Rattle.bl_num.proofs.ValueLaw.{value_of-law}
use Rattle.bl_num.proofs.Scaled.{scaled, scaled-add, scaled-swap, scaled-cancel, canonical_places}
use Rattle.bl_num.proofs.Scaled.{canonical_units, canonical_same}
use Rattle.bl_num.proofs.Written.{written, text_of-spelling, written-number, padded-pads}
use Rattle.bl_num.proofs.Kept.{trimmed-length}
use Rattle.bl_num.proofs.Powers.{ten_pow-positive}
use Rattle.std.proofs.lemmas.Nat.{mod_below}

reads_value : (s : Spelled) (text : List ℕ) → IsSpelling s text → ReadsValue s (value_of s)
reads_value s text h = value_of-law s
    (All-append (λ d. is_digit d ≡ true) s.whole s.fraction h.whole_digits h.fraction_digits)

by_spelled : (text : List ℕ) (o : Option Spelled) → spelled_of text ≡ o → decimal_of text
    ≡ value_or_fault o
unfolding decimal_of
by_spelled text o e = ap value_or_fault e

pub reads_spelled : ReadsSpelled
reads_spelled s text h = subst (ReadsValue s)
    (sym (by_spelled text (Some s) (spelled_of-spelling s text h))) (reads_value s text h)

pub refuses_others : RefusesOthers
refuses_others text h = by (spelled_of text) refl where
  by : (o : Option Spelled) → spelled_of text ≡ o → decimal_of text ≡ Err Spelling
  by None e = by_spelled text None e
  by (Some s) e = absurd (h s (spelling-spelled_of s text e))

-- what reads is canonical and within the limits
pub decimal_of-ok : (text : List ℕ) (d : Decimal) → decimal_of text ≡ Ok d → IsCanonical d
    × IsWithinLimits d
decimal_of-ok text d e = by (spelled_of text) refl where
  by : (o : Option Spelled) → spelled_of text ≡ o → IsCanonical d × IsWithinLimits d
  by None h = absurd (let q : Ok d ≡ Err Spelling = sym e ∙ by_spelled text None h in cc)
  by (Some s) h =
      let r = subst (ReadsValue s) (sym (by_spelled text (Some s) h) ∙ e)
      (reads_value s text (spelling-spelled_of s text h)) in
      (r.2, r.3)

pub canonical_of : (text : List ℕ) (r : Result Decimal NumberFault) → r ≡ decimal_of text
    → IfOk r IsCanonical
canonical_of text (Ok d) e = (decimal_of-ok text d (sym e)).0
canonical_of text (Err fault) e = tt

pub limits_of : (text : List ℕ) (r : Result Decimal NumberFault) → r ≡ decimal_of text
    → IfOk r IsWithinLimits
limits_of text (Ok d) e = (decimal_of-ok text d (sym e)).1
limits_of text (Err fault) e = tt

pub units_keep_value : UnitsKeepValue
units_keep_value d places l = let q : (places - d.places) + d.places ≡ places =
    omega arith in scaled-add d.mantissa (places - d.places) d.places ∙ ap (scaled d.mantissa) q

-- ---- what is written

module _ (z : ℤ) (places : ℕ) (small : nat_abs z < 10 ^ 64) (d : Decimal) where
  behind : length (written z places).fraction ≤ places
  behind =
      let p = padded-pads places (nat_abs z % 10 ^ places)
      (mod_below (nat_abs z) (10 ^ places) (ten_pow-positive places)) in
      omega (arith, trimmed-length (padded places (nat_abs z % 10 ^ places)), p.count)

  all_places : (y : ℤ) → scaled (scaled y (length (written z places).fraction))
      (places - length (written z places).fraction) ≡ scaled y places
  all_places y =
      let q : length (written z places).fraction + (places - length (written z places).fraction)
      ≡ places = omega (arith, behind) in
      scaled-add y (length (written z places).fraction)
      (places - length (written z places).fraction) ∙ ap (scaled y) q

  digits_scaled : scaled (scaled (digits_number (written z places)) d.places)
      (places - length (written z places).fraction) ≡ scaled z d.places
  digits_scaled =
      scaled-swap (digits_number (written z places)) d.places
      (places - length (written z places).fraction)
      ∙ ap (λ (y : ℤ). scaled y d.places) (sym (written-number z places small))

  no_exponent : (y : ℤ) (k : ℕ) → scaled y (k + 0) ≡ scaled y k
  no_exponent y k = let q : k + 0 ≡ k = omega arith in ap (scaled y) q

  value_of_written : HasValue d (written z places) → scaled d.mantissa places ≡ scaled z d.places
  value_of_written h =
      let n = length (written z places).fraction in
      let e = sym (no_exponent d.mantissa n) ∙ h ∙ no_exponent (digits_number (written z places))
      d.places in
      sym (all_places d.mantissa) ∙ ap (λ (y : ℤ). scaled y (places - n)) e ∙ digits_scaled

  written_of_value : scaled d.mantissa places ≡ scaled z d.places → HasValue d (written z places)
  written_of_value h =
      let n = length (written z places).fraction in
      let e = scaled-cancel (scaled d.mantissa n)
      (scaled (digits_number (written z places)) d.places) (places - n)
      (all_places d.mantissa ∙ h ∙ sym digits_scaled) in
      no_exponent d.mantissa n ∙ e ∙ sym (no_exponent (digits_number (written z places)) d.places)

reads_back_by : (z : ℤ) (places : ℕ) → nat_abs z < 10 ^ 64 → (r : Result Decimal NumberFault)
    → ReadsValue (written z places) r → ReadsBack z places r
reads_back_by z places small (Ok d) h =
    let v = value_of_written z places small d h.1 in
    (canonical_places d z places h.2 v, canonical_units d z places h.2 v)
reads_back_by z places small (Err fault) h = (
  h.0,
  ⊎_elim (λ l. absurd (omega arith))
      (λ none. λ d w v. none d w (written_of_value z places small d v)) h.1,
)

reads_back_small : (z : ℤ) (places : ℕ) → nat_abs z < 10 ^ 64
    → ReadsBack z places (decimal_of (text_of z places))
reads_back_small z places small = reads_back_by z places small (decimal_of (text_of z places))
    (reads_spelled (written z places) (text_of z places) (text_of-spelling z places small))

fits_small : (z : ℤ) → FitsSigned w128 z → nat_abs z < 10 ^ 64
fits_small (pos n) f = let s = f.sfits in omega arith
fits_small (negsuc n) f = let s = f.sfits in omega arith

pub writes_readably : WritesReadably
writes_readably z places f = reads_back_small z places (fits_small z f)

pub reads_within : ReadsWithinLimits
reads_within z places l p = by (decimal_of (text_of z places)) refl where
  by : (r : Result Decimal NumberFault) → decimal_of (text_of z places) ≡ r → (d : Decimal)
      × (decimal_of (text_of z places) ≡ Ok d) × (d.places ≤ places) × (in_units d places ≡ z)
  by (Ok d) e = let b = subst (ReadsBack z places) e (reads_back_small z places (omega arith)) in
      (d, e, b.0, b.1)
  by (Err fault) e =
      let b = subst (ReadsBack z places) e (reads_back_small z places (omega arith)) in
      absurd (b.1 (record { mantissa = z; places = places }) (l, p) refl)

pub canonical_reads_back : CanonicalReadsBack
canonical_reads_back d h w =
    let r = reads_within d.mantissa d.places w.0 w.1 in
    let other = decimal_of-ok (text_of d.mantissa d.places) r.0 r.1 in
    let value = sym (units_keep_value r.0 d.places r.2) ∙ ap (λ (y : ℤ). scaled y r.0.places) r.3 in
    r.1 ∙ ap Ok (canonical_same r.0 d other.0 h value)
