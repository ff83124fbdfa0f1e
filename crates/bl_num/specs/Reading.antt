-- Digits that are read one after another, kept in a number that stays small.
use Rattle.std.specs.Prelude.{ℕ, ◌-◌, ◌^◌, min, List, length, ℤ, pos, negsuc}
use Rattle.bl_num.specs.declared.read.Digits.{Digits}
use Rattle.bl_num.specs.Decimals.{whole_number, trimmed}

-- a number above every mantissa that fits: a larger one is kept as this
abbrev pub ceiling : ℕ
ceiling = 10 ^ 28

-- what is kept of digits: their number without its trailing zeros, and how many these zeros are
abbrev pub kept_of : List ℕ → Digits
kept_of ds = record {
  mantissa = min (whole_number (trimmed ds)) ceiling;
  zeros =
      length ds - length (trimmed ds);
}

-- an exponent, which is kept as far as 28 from 0
abbrev pub clipped : ℤ → ℤ
clipped (pos n) = pos (min n 28)
clipped (negsuc n) = negsuc (min n 27)
