-- The numbers' spelling as it is written, and what a decimal says.
use Rattle.std.specs.Prelude.{◌≡◌, ◌≢◌, ◌⊎◌, ℕ, suc, ◌+◌, ◌%◌, ◌^◌, ◌<◌, ◌≤◌, Bool, true, false}
use Rattle.std.specs.Prelude.{List, [], ◌∷◌, ◌++◌, length, ℤ, pos, negsuc, ◌*ℤ◌, nat_abs, Result}
use Rattle.std.specs.Prelude.{Ok, Err}
use Rattle.bl_num.specs.declared.Decimal.{Decimal}
use Rattle.bl_num.specs.declared.NumberFault.{NumberFault}
use Rattle.bl_num.specs.declared.NumberFault.TheVariants.{TooWide}
use Rattle.bl_num.specs.Decimals.{Spelled, AreDigits, negated_if, whole_number}

-- `-`; or `+` or nothing
abbrev pub IsSign : Bool → List ℕ → Type 0
IsSign true text = text ≡ 45 ∷ []
IsSign false text = (text ≡ []) ⊎ (text ≡ 43 ∷ [])

-- a point and the digits behind it; or nothing, where there are none
abbrev pub IsFraction : List ℕ → List ℕ → Type 0
IsFraction fraction text = (text ≡ 46 ∷ fraction) ⊎ ((fraction ≡ []) × (text ≡ []))

-- `e` or `E`, a sign and digits
pub record IsPower (e : ℤ) (text : List ℕ) : Type 0 where
  pub letter : ℕ
  pub minus : Bool
  pub sign : List ℕ
  pub digits : List ℕ
  pub is_letter : (letter ≡ 101) ⊎ (letter ≡ 69)
  pub is_sign : IsSign minus sign
  pub are_digits : AreDigits digits
  pub some_digit : 0 < length digits
  pub value : e ≡ negated_if minus (whole_number digits)
  pub text_is : text ≡ letter ∷ (sign ++ digits)

-- an exponent; or nothing, for 0
abbrev pub IsExponent : ℤ → List ℕ → Type 0
IsExponent e text = IsPower e text ⊎ ((e ≡ pos 0) × (text ≡ []))

-- a sign, digits with at most one point and at least one digit, and an exponent
pub record IsSpelling (s : Spelled) (text : List ℕ) : Type 0 where
  pub sign : List ℕ
  pub fraction : List ℕ
  pub exponent : List ℕ
  pub is_sign : IsSign s.minus sign
  pub whole_digits : AreDigits s.whole
  pub fraction_digits : AreDigits s.fraction
  pub some_digit : 0 < length s.whole + length s.fraction
  pub is_fraction : IsFraction s.fraction fraction
  pub is_exponent : IsExponent s.exponent exponent
  pub text_is : text ≡ sign ++ (s.whole ++ (fraction ++ exponent))

-- ---- what a decimal says

-- ten to the power of an exponent is 10 ^ raised / 10 ^ lowered
abbrev pub raised : ℤ → ℕ
raised (pos n) = n
raised (negsuc n) = 0

abbrev pub lowered : ℤ → ℕ
lowered (pos n) = 0
lowered (negsuc n) = suc n

-- the digits as one whole number, with the sign
abbrev pub digits_number : Spelled → ℤ
digits_number s = negated_if s.minus (whole_number (s.whole ++ s.fraction))

-- the decimal is the number that is spelled: `mantissa / 10 ^ places` is the digits' number over
-- `10 ^` the count of digits behind the point, times ten to the exponent
abbrev pub HasValue : Decimal → Spelled → Type 0
HasValue d s = d.mantissa *ℤ pos (10 ^ (length s.fraction + lowered s.exponent))
    ≡ digits_number s *ℤ pos (10 ^ (d.places + raised s.exponent))

-- no decimal with fewer places is the same number
abbrev pub IsCanonical : Decimal → Type 0
IsCanonical d = (d.places ≡ 0) ⊎ (nat_abs d.mantissa % 10 ≢ 0)

abbrev pub IsWithinLimits : Decimal → Type 0
IsWithinLimits d = (nat_abs d.mantissa ≤ 10 ^ 27) × (d.places ≤ 27)

-- the canonical decimal with this value; or `TooWide`, where the exponent is beyond the limits
-- or no decimal within them has the value
abbrev pub ReadsValue : Spelled → Result Decimal NumberFault → Type 0
ReadsValue s (Ok d) = (nat_abs s.exponent ≤ 27) × HasValue d s × IsCanonical d × IsWithinLimits d
ReadsValue s (Err fault) = (fault ≡ TooWide)
    × ((27 < nat_abs s.exponent) ⊎ ((d : Decimal) → IsWithinLimits d → ¬ (HasValue d s)))
