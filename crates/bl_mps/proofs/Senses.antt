-- Numbers in the sense of the file.
use Rattle.std.proofs.Common.{◌≡◌, ℕ, refl, ap, arith, ℤ}
use Rattle.std.specs.Prelude.{nat_abs, nat_le, neg_ℤ}
use Rattle.std.proofs.lemmas.Int.{ints}
use Rattle.bl_problem.specs.declared.problem.Sense.{Sense}
use Rattle.bl_problem.specs.declared.problem.Sense.TheVariants.{Min, Max}
use Rattle.bl_problem.specs.Points.{in_sense}
use Rattle.bl_problem.specs.Program.{HasTen}
use Rattle.bl_problem.specs.Sums.{IsWithin}
use Rattle.bl_mps.specs.Meaning.{is_within}
use Rattle.bl_mps.proofs.Units.{ten_negated}

size_kept : (z : ℤ) → nat_abs (neg_ℤ z) ≡ nat_abs z
size_kept z = omega (arith, ints)

-- a number and its negative keep the same limit
pub sense_within : (sense : Sense) (limit : ℕ) (z : ℤ) → is_within limit (in_sense sense z)
    ≡ is_within limit z
sense_within Min limit z = refl
sense_within Max limit z = ap (λ (n : ℕ). nat_le n limit) (size_kept z)

pub sense_small : (sense : Sense) (limit : ℕ) (z : ℤ) → IsWithin limit z
    → IsWithin limit (in_sense sense z)
sense_small Min limit z h = h
sense_small Max limit z h = omega (arith, ints, h)

pub sense_ten : (sense : Sense) (z : ℤ) → HasTen (in_sense sense z) → HasTen z
sense_ten Min z t = t
sense_ten Max z t = ten_negated z t
