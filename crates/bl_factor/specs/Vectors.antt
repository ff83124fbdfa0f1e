-- Columns of fixed-point numbers.
use Rattle.std.specs.Prelude.{ℕ, Bool, List, ◌≤◌, ◌^◌, map, pos, unsigned_abs, nat_eq}
use Rattle.std.specs.Prelude.{slice_index_or, if◌then◌else◌}
use Rattle.std.specs.List.{range_with_len}
use Rattle.bl_fixed.specs.declared.Fixed.{Fixed}
use Rattle.bl_fixed.specs.Fixed.{one}

-- the numbers 0 and 1
abbrev pub nought : Fixed
nought = record { raw = pos 0 }

abbrev pub unity : Fixed
unity = record { raw = one }

abbrev pub is_nought : Fixed → Bool
is_nought x = nat_eq (unsigned_abs x.raw) 0

-- a pivot is at least 2^-20 from 0
abbrev pub IsPivot : Fixed → Type 0
IsPivot x = 2 ^ 20 ≤ unsigned_abs x.raw

-- the number at a place, 0 past the end
abbrev pub at : List Fixed → ℕ → Fixed
at xs i = slice_index_or xs i nought

-- f 0, f 1, .., f (n - 1)
unfoldable pub column_of : ℕ → (ℕ → Fixed) → List Fixed
column_of n f = map f (range_with_len 0 n)

-- 1 at the place and 0 elsewhere
abbrev pub unit_entry : ℕ → ℕ → Fixed
unit_entry place i = if nat_eq i place then unity else nought

abbrev pub unit_column : ℕ → ℕ → List Fixed
unit_column n place = column_of n (unit_entry place)
