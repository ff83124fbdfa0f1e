-- The point of rounded entries.
use Rattle.std.specs.Prelude.{ℕ, zero, suc, ◌^◌, ℤ, pos, ◌+ℤ◌, List, [], ◌∷◌, ◌++◌, length}
use Rattle.std.specs.Prelude.{slice_index_or}
use Rattle.std.specs.Int.{int_max, int_min}
use Rattle.bl_num.specs.Exact.{at}
use Rattle.bl_problem.specs.declared.cut.Cut.{Cut}
use Rattle.bl_desc.specs.declared.desc.Desc.{Desc}
use Rattle.bl_fixed.specs.Fixed.{one, floor_of}
use Rattle.bl_fixed.specs.declared.Fixed.{Fixed}

-- the nearest whole number, a half going up, moved to between low and high
abbrev pub entry_of : Fixed → ℤ → ℤ → ℤ
entry_of value low high = int_max (int_min (floor_of (value.raw +ℤ pos (2 ^ 39)) one) high) low

-- the rounded entry of column j
abbrev pub rounded_at : List ℤ → List ℤ → List Fixed → ℕ → ℤ
rounded_at lows highs point j = entry_of (slice_index_or point j (record { raw = pos 0 }))
    (at lows j) (at highs j)

-- the first n of them
abbrev pub rounded_below : ℕ → List ℤ → List ℤ → List Fixed → List ℤ
rounded_below zero lows highs point = []
rounded_below (suc n) lows highs point = rounded_below n lows highs point
    ++ rounded_at lows highs point n ∷ []

-- the point of all rounded entries
abbrev pub rounded_of : Desc Cut → List Fixed → List ℤ
rounded_of d point = rounded_below (length d.lows) d.lows d.highs point
