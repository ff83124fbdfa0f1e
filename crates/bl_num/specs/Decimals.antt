-- How a number is spelled, and the decimal that it means.
use Rattle.std.specs.Prelude.{◌≡◌, All, ℕ, suc, ◌+◌, ◌-◌, ◌*◌, ◌^◌, Bool, true, false, not, ◌&&◌}
use Rattle.std.specs.Prelude.{◌||◌, ◌==◌, nat_le, nat_lt, if◌then◌else◌, List, [], ◌∷◌, ◌++◌}
use Rattle.std.specs.Prelude.{length, fold, take_while, ℤ, pos, negsuc, ◌+ℤ◌, ◌-ℤ◌, ◌*ℤ◌, neg_ℤ}
use Rattle.std.specs.Prelude.{nat_abs, Option, Some, None, option_map, Result, Ok, Err}
use Rattle.bl_num.specs.declared.Decimal.{Decimal}
use Rattle.bl_num.specs.declared.NumberFault.{NumberFault}
use Rattle.bl_num.specs.declared.NumberFault.TheVariants.{Spelling, TooWide}

abbrev pub is_digit : ℕ → Bool
is_digit b = nat_le 48 b && nat_le b 57

abbrev pub AreDigits : List ℕ → Type 0
AreDigits ds = All (λ d. is_digit d ≡ true) ds

-- digits as one whole number
abbrev pub whole_number : List ℕ → ℕ
whole_number ds = fold (λ n d. 10 * n + (d - 48)) 0 ds

abbrev pub negated_if : Bool → ℕ → ℤ
negated_if true n = neg_ℤ (pos n)
negated_if false n = pos n

-- ---- the parts of a spelled number

abbrev pub has_minus : List ℕ → Bool
has_minus [] = false
has_minus (b ∷ bs) = b == 45

-- `+` or `-` in front is left out
abbrev pub after_sign : List ℕ → List ℕ
after_sign [] = []
after_sign (b ∷ bs) = if b == 43 || b == 45 then bs else b ∷ bs

-- the digits in front
abbrev pub digits_of : List ℕ → List ℕ
digits_of text = take_while is_digit text

-- what comes after the digits in front
abbrev pub after_digits : List ℕ → List ℕ
after_digits [] = []
after_digits (b ∷ bs) = if is_digit b then after_digits bs else b ∷ bs

-- the digits behind a point
abbrev pub fraction_of : List ℕ → List ℕ
fraction_of [] = []
fraction_of (b ∷ bs) = if b == 46 then digits_of bs else []

abbrev pub after_fraction : List ℕ → List ℕ
after_fraction [] = []
after_fraction (b ∷ bs) = if b == 46 then after_digits bs else b ∷ bs

abbrev pub is_empty : List ℕ → Bool
is_empty [] = true
is_empty (b ∷ bs) = false

-- digits and nothing else
abbrev pub power_of : Bool → List ℕ → Option ℤ
power_of minus ds = if not (is_empty ds) && is_empty (after_digits ds)
    then Some (negated_if minus (whole_number ds)) else None

-- nothing, or `e` or `E`, a sign or none, and digits
abbrev pub exponent_of : List ℕ → Option ℤ
exponent_of [] = Some (pos 0)
exponent_of (b ∷ bs) = if b == 101 || b == 69 then power_of (has_minus bs) (after_sign bs) else None

pub record Spelled : Type 0 where
  pub minus : Bool
  pub whole : List ℕ
  pub fraction : List ℕ
  pub exponent : ℤ

-- the parts of a text whose sign is left out
abbrev pub parts_of : Bool → List ℕ → Option Spelled
parts_of minus text =
    let rest = after_digits text in
    if is_empty (digits_of text ++ fraction_of rest) then None
    else option_map (λ e. record {
      minus = minus;
      whole = digits_of text;
      fraction =
          fraction_of rest;
      exponent = e;
    }) (exponent_of (after_fraction rest))

abbrev pub spelled_of : List ℕ → Option Spelled
spelled_of text = parts_of (has_minus text) (after_sign text)

-- ---- what it means

-- a digit in front of others that may end in zeros
abbrev pub kept_digit : ℕ → List ℕ → List ℕ
kept_digit d (e ∷ ds) = d ∷ e ∷ ds
kept_digit d [] = if d == 48 then [] else d ∷ []

-- without the trailing zeros
abbrev pub trimmed : List ℕ → List ℕ
trimmed [] = []
trimmed (d ∷ ds) = kept_digit d (trimmed ds)

abbrev pub decimal : Bool → ℕ → ℕ → Decimal
decimal minus mantissa places = record { mantissa = negated_if minus mantissa; places = places }

-- the limit on a mantissa
abbrev pub widest : ℕ
widest = 10 ^ 27

-- a whole number without trailing zeros times a power of ten
abbrev pub settled : Bool → ℕ → ℤ → Result Decimal NumberFault
settled minus n (pos x) = if nat_le (n * 10 ^ x) widest then Ok (decimal minus (n * 10 ^ x) 0)
    else Err TooWide
settled minus n (negsuc x) = if nat_le n widest && nat_lt x 27 then Ok (decimal minus n (suc x))
    else Err TooWide

-- the digits before the exponent, with so many of them behind the point
abbrev pub meant : Bool → List ℕ → ℕ → ℤ → Result Decimal NumberFault
meant minus digits behind e =
    if whole_number digits == 0 then Ok (decimal false 0 0)
    else settled minus (whole_number (trimmed digits))
    ((e -ℤ pos behind) +ℤ pos (length digits - length (trimmed digits)))

abbrev pub value_of : Spelled → Result Decimal NumberFault
value_of s = if nat_le (nat_abs s.exponent) 27 then meant s.minus (s.whole ++ s.fraction)
    (length s.fraction) s.exponent else Err TooWide

abbrev pub value_or_fault : Option Spelled → Result Decimal NumberFault
value_or_fault None = Err Spelling
value_or_fault (Some s) = value_of s

-- the decimal that a text spells
unfoldable pub decimal_of : List ℕ → Result Decimal NumberFault
decimal_of text = value_or_fault (spelled_of text)

-- a decimal as a whole number of units of 10 to the power -places, where it has no more places
abbrev pub in_units : Decimal → ℕ → ℤ
in_units d places = d.mantissa *ℤ pos (10 ^ (places - d.places))
