-- The laws of the saturating operations that products of factors need.
use Rattle.std.proofs.Common.{◌≡◌, ℕ, suc, ◌+◌, ◌*◌, ◌/◌, ◌<◌, Bool, true, false, ℤ, pos, negsuc}
use Rattle.std.proofs.Common.{◌*ℤ◌, ◌-ℤ◌, ◌&&◌, nat_eq, if◌then◌else◌, sym, ap, ◌∙◌, arith}
use Rattle.std.proofs.Common.{unsigned_abs, of_z, FitsSigned}
use Rattle.std.proofs.lemmas.Int.{ints}
use Rattle.std.specs.Int.{w128, saturate_signed}
use Rattle.std.proofs.lemmas.Nat.{div-mul-add}
use Rattle.std.proofs.lemmas.Bool.Decides.{nat_tests}
use Rattle.bl_fixed.specs.declared.Fixed.{Fixed}
use Rattle.bl_fixed.specs.Fixed.{saturated_difference, saturated_product, saturated_quotient, one}
use Rattle.bl_fixed.specs.Fixed.{floor_of, fits_i128, nearest_end}
use Rattle.bl_factor.specs.Vectors.{nought, is_nought, IsPivot}

pub is_nought-true : (x : Fixed) → is_nought x ≡ true → x ≡ nought
is_nought-true x h = ap (λ (z : ℤ). record { raw = z }) (zero_of x.raw h)
  where
    zero_of : (z : ℤ) → nat_eq (unsigned_abs z) 0 ≡ true → z ≡ pos 0
    zero_of z h = grind (arith, ints, nat_tests)

-- the code's test for 0
pub is_nought-yes : (x : Fixed) → FitsSigned w128 x.raw → of_z w128 x.raw ≡ 0 → is_nought x ≡ true
is_nought-yes x f h = of_number x.raw f h
  where
    of_number : (z : ℤ) → FitsSigned w128 z → of_z w128 z ≡ 0 → nat_eq (unsigned_abs z) 0 ≡ true
    of_number (pos n) f h = grind (arith, nat_tests)
    of_number (negsuc n) f h = let g = f.sfits in absurd (omega (arith, ints))

pub is_nought-no : (x : Fixed) → (of_z w128 x.raw ≡ 0 → ⊥) → is_nought x ≡ false
is_nought-no x h = of_number x.raw h
  where
    of_number : (z : ℤ) → (of_z w128 z ≡ 0 → ⊥) → nat_eq (unsigned_abs z) 0 ≡ false
    of_number (pos n) h = grind (arith, nat_tests)
    of_number (negsuc n) h = grind (arith, nat_tests)

pub if-true : {A : Type 0} (t : Bool) (x y : A) → t ≡ true → (if t then x else y) ≡ x
if-true t x y h = ap (λ (b : Bool). if b then x else y) h

-- ---- a quotient of 0, a product with 0
floor-nought : (z : ℤ) → 0 < unsigned_abs z → floor_of (pos 0 *ℤ one) z ≡ pos 0
floor-nought (pos n) h =
    let e : 0 ≡ 0 * n + 0 = omega arith in
    ap (λ (m : ℕ). pos (m / n)) e ∙ ap pos (div-mul-add 0 n 0 h)
floor-nought (negsuc n) h =
    let e : 0 ≡ 0 * suc n + 0 = omega arith in
    ap (λ (m : ℕ). pos (m / suc n)) e ∙ ap pos (div-mul-add 0 (suc n) 0 (omega arith))

pub quotient-nought : (x p : Fixed) → x ≡ nought → IsPivot p → saturated_quotient x p ≡ x
unfolding saturated_quotient
quotient-nought x p e h =
    let q = floor-nought p.raw (omega arith) in
    let t : (fits_i128 (pos 0 *ℤ one) && fits_i128 (floor_of (pos 0 *ℤ one) p.raw)) ≡ true =
    ap fits_i128 q in
    ap (λ (y : Fixed). saturated_quotient y p) e
    ∙ ap (λ (z : ℤ). record { raw = z })
    (if-true _ (floor_of (pos 0 *ℤ one) p.raw) (nearest_end (floor_of (pos 0 *ℤ one) p.raw)) t
    ∙ q)
    ∙ sym e

product-nought : (c : Fixed) → saturated_product c nought ≡ nought
unfolding saturated_product
product-nought c =
    ap (λ (z : ℤ). record {
      raw = if fits_i128 z then floor_of z one
          else nearest_end (floor_of z one);
    }) (times_nought c.raw)
  where
    times_nought : (z : ℤ) → z *ℤ pos 0 ≡ pos 0
    times_nought (pos n) = omega (arith, ints)
    times_nought (negsuc n) = omega (arith, ints)

difference-nought : (x : Fixed) → FitsSigned w128 x.raw → saturated_difference x nought ≡ x
unfolding saturated_difference
difference-nought x f = ap (λ (z : ℤ). record { raw = z }) (of_number x.raw f)
  where
    of_number : (z : ℤ) → FitsSigned w128 z → saturate_signed w128 (z -ℤ pos 0) ≡ z
    of_number (pos n) f = let g = f.sfits in grind (arith, ints, nat_tests)
    of_number (negsuc n) f = let g = f.sfits in grind (arith, ints, nat_tests)

pub less_product-nought : (x c q : Fixed) → q ≡ nought → FitsSigned w128 x.raw
    → saturated_difference x (saturated_product c q) ≡ x
less_product-nought x c q e f =
    ap (λ (y : Fixed). saturated_difference x (saturated_product c y)) e
    ∙ ap (saturated_difference x) (product-nought c)
    ∙ difference-nought x f
