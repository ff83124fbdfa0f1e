-- The fractions of a point's entries, and the place at the one nearest to one half.
use Rattle.std.specs.Prelude.{ℕ, ◌<◌, ◌≤◌, ◌≡◌, ℤ, pos, ◌-ℤ◌, ◌*ℤ◌, ◌<ℤ◌, ◌≤ℤ◌, List, length}
use Rattle.std.specs.Prelude.{Option, Some, None, unsigned_abs, slice_index_or}
use Rattle.std.specs.Int.{int_max, int_min, int_rem_euclid}
use Rattle.bl_num.specs.Exact.{at}
use Rattle.bl_problem.specs.declared.cut.Cut.{Cut}
use Rattle.bl_desc.specs.declared.desc.Desc.{Desc}
use Rattle.bl_fixed.specs.Fixed.{one, floor_of}
use Rattle.bl_fixed.specs.declared.Fixed.{Fixed}
use Rattle.bl_branch.specs.declared.place.Place.{Place}
use Rattle.bl_branch.specs.Widest.{IsHalf}

-- what a number is above its floor, in units of 2^-40
abbrev pub fraction_of : Fixed → ℤ
fraction_of value = int_rem_euclid value.raw one

-- how far that is from one half, in units of 2^-41
abbrev pub gap_of : Fixed → ℕ
gap_of value = unsigned_abs (pos 2 *ℤ fraction_of value -ℤ one)

-- the entry at place j, or 0 past the end
abbrev pub entry_at : List Fixed → ℕ → Fixed
entry_at point j = slice_index_or point j (record { raw = pos 0 })

-- of the first n columns one of more than one value, whose entry's fraction is nearest to one
-- half; of equally near ones the first
pub record IsFirstNearest (lows highs : List ℤ) (point : List Fixed) (n j : ℕ) : Type 0 where
  pub inside : j < n
  pub wide : at lows j <ℤ at highs j
  pub before : (k : ℕ) → k < j → at lows k <ℤ at highs k → gap_of (entry_at point j)
      < gap_of (entry_at point k)
  pub behind : (k : ℕ) → k < n → at lows k <ℤ at highs k → gap_of (entry_at point j)
      ≤ gap_of (entry_at point k)

-- the first nearest of the first n columns, or none where none of them has more than one value
abbrev pub IsNearest : List ℤ → List ℤ → List Fixed → ℕ → Option ℕ → Type 0
IsNearest lows highs point n (Some j) = IsFirstNearest lows highs point n j
IsNearest lows highs point n None = (j : ℕ) → j < n → at highs j ≤ℤ at lows j

-- each column of more than one value has a whole entry
abbrev pub AreWhole : Desc Cut → List Fixed → Type 0
AreWhole d point = (j : ℕ) → j < length d.lows → at d.lows j <ℤ at d.highs j
    → fraction_of (entry_at point j) ≡ pos 0

-- a number rounded down, and moved to between low and last
abbrev pub floor_within : Fixed → ℤ → ℤ → ℤ
floor_within value low last = int_max (int_min (floor_of value.raw one) last) low

-- the first column nearest to one half, at the floor of its entry, moved to between its low and
-- its high less 1
pub record IsAtNearest (d : Desc Cut) (point : List Fixed) (place : Place) : Type 0 where
  pub nearest : IsFirstNearest d.lows d.highs point (length d.lows) place.column
  pub floor : place.at ≡ floor_within (entry_at point place.column) (at d.lows place.column)
      (at d.highs place.column -ℤ pos 1)

-- that place; where all these entries are whole it is the half
pub record IsMostFractional (d : Desc Cut) (point : List Fixed) (place : Place) : Type 0 where
  pub fractional : ¬ (AreWhole d point) → IsAtNearest d point place
  pub whole : AreWhole d point → IsHalf d place
