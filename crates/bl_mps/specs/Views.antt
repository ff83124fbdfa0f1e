-- What contracts see of a row's numbers.
use Rattle.std.specs.Prelude.{ℕ, ℤ, List, Option, Some, None, if◌then◌else◌, ◌&&◌}
use Rattle.bl_num.specs.declared.Decimal.{Decimal}
use Rattle.bl_mps.specs.declared.entries.Entry.{Entry}
use Rattle.bl_mps.specs.declared.scale.RowEnds.{RowEnds}
use Rattle.bl_mps.specs.Meaning.{RowSaid, is_within, end_within}

abbrev pub row_said : List Entry → Decimal → Option Decimal → RowSaid
row_said entries right range = record { entries = entries; right = right; range = range }

-- a number that is within a limit
abbrev pub within : ℕ → ℤ → Option ℤ
within limit z = if is_within limit z then Some z else None

-- ends that are within their limit
abbrev pub ends_within : RowEnds → Option RowEnds
ends_within e = if end_within e.low && end_within e.high then Some e else None
