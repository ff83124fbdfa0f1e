-- What reading, writing and rounding come to.
use Rattle.std.specs.Prelude.{◌≡◌, ◌↔◌, ℕ, ◌^◌, ◌≤◌, List, ℤ, pos, ◌*ℤ◌, ◌≤ℤ◌, nat_abs}
use Rattle.std.specs.Prelude.{FitsSigned, Result, Ok, Err}
use Rattle.std.specs.Int.{w128}
use Rattle.bl_num.specs.declared.Decimal.{Decimal}
use Rattle.bl_num.specs.declared.NumberFault.{NumberFault}
use Rattle.bl_num.specs.declared.NumberFault.TheVariants.{Spelling, TooWide}
use Rattle.bl_num.specs.Decimals.{Spelled, decimal_of, in_units}
use Rattle.bl_num.specs.Exact.{floor_of, ceil_of}
use Rattle.bl_num.specs.Spellings.{IsSpelling, IsCanonical, IsWithinLimits, ReadsValue}
use Rattle.bl_num.specs.Texts.{text_of}

-- a text that is spelled as a number reads as the canonical decimal of its value, or is too wide
abbrev pub ReadsSpelled : Type 0
ReadsSpelled = (s : Spelled) (text : List ℕ) → IsSpelling s text → ReadsValue s (decimal_of text)

-- every other text is refused for its spelling
abbrev pub RefusesOthers : Type 0
RefusesOthers = (text : List ℕ) → ((s : Spelled) → ¬ (IsSpelling s text)) → decimal_of text
    ≡ Err Spelling

-- two canonical decimals of one value are the same
abbrev pub CanonicalIsOne : Type 0
CanonicalIsOne = (a b : Decimal) → IsCanonical a → IsCanonical b
    → a.mantissa *ℤ pos (10 ^ b.places) ≡ b.mantissa *ℤ pos (10 ^ a.places) → a ≡ b

-- what a text reads as is canonical and within the limits
abbrev pub ReadsCanonically : Type 0
ReadsCanonically = (text : List ℕ) (d : Decimal) → decimal_of text ≡ Ok d → IsCanonical d
    × IsWithinLimits d

-- m units of 10 ^ -places are the value of the decimal
abbrev pub UnitsKeepValue : Type 0
UnitsKeepValue = (d : Decimal) (places : ℕ) → d.places ≤ places
    → in_units d places *ℤ pos (10 ^ d.places) ≡ d.mantissa *ℤ pos (10 ^ places)

-- in units of 10 ^ -places it is z again; or no decimal within the limits has the value of z /
-- 10 ^ places
abbrev pub ReadsBack : ℤ → ℕ → Result Decimal NumberFault → Type 0
ReadsBack z places (Ok d) = (d.places ≤ places) × (in_units d places ≡ z)
ReadsBack z places (Err fault) = (fault ≡ TooWide)
    × ((d : Decimal) → IsWithinLimits d
    → ¬ (d.mantissa *ℤ pos (10 ^ places) ≡ z *ℤ pos (10 ^ d.places)))

-- what is written reads back
abbrev pub WritesReadably : Type 0
WritesReadably = (z : ℤ) (places : ℕ) → FitsSigned w128 z
    → ReadsBack z places (decimal_of (text_of z places))

-- and it does read, where the number and the places are within the limits
abbrev pub ReadsWithinLimits : Type 0
ReadsWithinLimits = (z : ℤ) (places : ℕ) → nat_abs z ≤ 10 ^ 27 → places ≤ 27 →
    (d : Decimal) × (decimal_of (text_of z places) ≡ Ok d) × (d.places ≤ places)
    × (in_units d places ≡ z)

-- a canonical decimal within the limits is written and read as itself
abbrev pub CanonicalReadsBack : Type 0
CanonicalReadsBack = (d : Decimal) → IsCanonical d → IsWithinLimits d
    → decimal_of (text_of d.mantissa d.places) ≡ Ok d

-- the greatest whole number that is at most a / b
abbrev pub FloorIsGreatest : Type 0
FloorIsGreatest = (a b q : ℤ) → pos 1 ≤ℤ b → (((q *ℤ b) ≤ℤ a) ↔ (q ≤ℤ floor_of a b))

-- the least whole number that is at least a / b
abbrev pub CeilingIsLeast : Type 0
CeilingIsLeast = (a b q : ℤ) → pos 1 ≤ℤ b → ((a ≤ℤ (q *ℤ b)) ↔ (ceil_of a b ≤ℤ q))
