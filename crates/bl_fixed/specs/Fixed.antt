-- Fixed-point numbers of 40 bits behind the point: `raw` counts units of 2^-40.
use Rattle.std.specs.Prelude.{suc, ◌^◌, ◌-◌, ◌≢◌, Bool, ℤ, pos, negsuc, neg_ℤ, ◌+ℤ◌, ◌-ℤ◌, ◌*ℤ◌}
use Rattle.std.specs.Prelude.{nat_lt, ◌&&◌, if◌then◌else◌, FitsSigned}
use Rattle.std.specs.Int.{w128, int_div_euclid, saturate_signed}
use Rattle.bl_fixed.specs.declared.Fixed.{Fixed}
use lib.Signed.{mag}

-- the raw number of 1
abbrev pub one : ℤ
one = pos (2 ^ 40)

-- a / b rounded down, for a b that is not 0
abbrev pub floor_of : ℤ → ℤ → ℤ
floor_of a (pos b) = int_div_euclid a (pos b)
floor_of a (negsuc b) = int_div_euclid (neg_ℤ a) (pos (suc b))

-- the raw numbers of the exact sum, difference, product and quotient, rounded down
abbrev pub sum_of : Fixed → Fixed → ℤ
sum_of a b = a.raw +ℤ b.raw

abbrev pub difference_of : Fixed → Fixed → ℤ
difference_of a b = a.raw -ℤ b.raw

abbrev pub product_of : Fixed → Fixed → ℤ
product_of a b = floor_of (a.raw *ℤ b.raw) one

abbrev pub quotient_of : Fixed → Fixed → ℤ
quotient_of a b = floor_of (a.raw *ℤ one) b.raw

-- an `i128` holds the product before it is rounded
abbrev pub CanMultiply : Fixed → Fixed → Type 0
CanMultiply a b = FitsSigned w128 (a.raw *ℤ b.raw)

-- b is not 0, and an `i128` holds the dividend in units of b, and the quotient
abbrev pub CanDivide : Fixed → Fixed → Type 0
CanDivide a b = (b.raw ≢ pos 0) × FitsSigned w128 (a.raw *ℤ one) × FitsSigned w128 (quotient_of a b)

-- ---- operations that always answer: where i128 does not hold a number on the way, the end of
-- i128 nearest to the exact result

-- an `i128` holds z
abbrev pub fits_i128 : ℤ → Bool
fits_i128 z = nat_lt (mag z) (2 ^ 127)

-- the end of `i128` on the side of z: the nearest to each z outside
abbrev pub nearest_end : ℤ → ℤ
nearest_end (pos n) = pos (2 ^ 127 - 1)
nearest_end (negsuc n) = negsuc (2 ^ 127 - 1)

unfoldable pub saturated_sum : Fixed → Fixed → Fixed
saturated_sum a b = record { raw = saturate_signed w128 (sum_of a b) }

unfoldable pub saturated_difference : Fixed → Fixed → Fixed
saturated_difference a b = record { raw = saturate_signed w128 (difference_of a b) }

unfoldable pub saturated_product : Fixed → Fixed → Fixed
saturated_product a b = record {
  raw = if fits_i128 (a.raw *ℤ b.raw) then product_of a b
      else nearest_end (product_of a b);
}

unfoldable pub saturated_quotient : Fixed → Fixed → Fixed
saturated_quotient a b = record {
  raw =
      if fits_i128 (a.raw *ℤ one) && fits_i128 (quotient_of a b) then quotient_of a b
      else nearest_end (quotient_of a b);
}
