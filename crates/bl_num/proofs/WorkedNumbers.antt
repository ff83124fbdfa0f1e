-- Worked numbers.
use Rattle.std.proofs.Common.{◌≡◌, ◌^◌, [], Ok, Err, refl}
use Rattle.std.specs.Prelude.{codes}
use Rattle.bl_num.specs.declared.NumberFault.TheVariants.{Spelling, TooWide}
use Rattle.bl_num.specs.Decimals.{decimal, decimal_of}
use Rattle.std.proofs.Common.{true, false}

exponent_below_zero : decimal_of (codes "2.5E-2") ≡ Ok (decimal false 25 3)
unfolding decimal_of
exponent_below_zero = refl

zero_behind_point : decimal_of (codes "1.50") ≡ Ok (decimal false 15 1)
unfolding decimal_of
zero_behind_point = refl

exponent_above_zero : decimal_of (codes "1e3") ≡ Ok (decimal false 1000 0)
unfolding decimal_of
exponent_above_zero = refl

no_whole_part : decimal_of (codes "-.5") ≡ Ok (decimal true 5 1)
unfolding decimal_of
no_whole_part = refl

plus_sign : decimal_of (codes "+5") ≡ Ok (decimal false 5 0)
unfolding decimal_of
plus_sign = refl

zero : decimal_of (codes "0.000e-3") ≡ Ok (decimal false 0 0)
unfolding decimal_of
zero = refl

exponent_takes_point : decimal_of (codes "1.000000000000e+01") ≡ Ok (decimal false 10 0)
unfolding decimal_of
exponent_takes_point = refl

point_alone : decimal_of (codes ".") ≡ Err Spelling
unfolding decimal_of
point_alone = refl

no_exponent_digit : decimal_of (codes "1e") ≡ Err Spelling
unfolding decimal_of
no_exponent_digit = refl

blank_within : decimal_of (codes "1 2") ≡ Err Spelling
unfolding decimal_of
blank_within = refl

no_byte : decimal_of [] ≡ Err Spelling
unfolding decimal_of
no_byte = refl

widest_number : decimal_of (codes "1e27") ≡ Ok (decimal false (10 ^ 27) 0)
unfolding decimal_of
widest_number = refl

wide_exponent : decimal_of (codes "1e28") ≡ Err TooWide
unfolding decimal_of
wide_exponent = refl

wide_mantissa : decimal_of (codes "1000e25") ≡ Err TooWide
unfolding decimal_of
wide_mantissa = refl
