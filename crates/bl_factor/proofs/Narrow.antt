-- Entries of 64 bits.
use Rattle.std.proofs.Common.{◌≡◌, ℕ, ◌+◌, ◌<◌, ◌≤◌, ◌^◌, true, List, length, map, set, get_or, ℤ}
use Rattle.std.proofs.Common.{pos, negsuc, neg_ℤ, ◌≤ℤ◌, ◌<ℤ◌, ◌*ℤ◌, ◌-ℤ◌, refl, sym, ap, ◌∙◌}
use Rattle.std.proofs.Common.{subst, arith, unsigned_abs, FitsSigned, to_z, of_z}
use Rattle.std.proofs.lemmas.Int.{ints, to_z-of_z}
use Rattle.std.specs.Int.{w128, saturate_signed}
use Rattle.std.specs.Int.Signed.{shr_z, mag_shr}
use Rattle.std.proofs.lemmas.Bool.{lt-ltb}
use Rattle.std.proofs.lemmas.Bool.Decides.{nat_tests}
use Rattle.std.proofs.lemmas.List.{get_or-map, length-map}
use Rattle.bl_fixed.specs.declared.Fixed.{Fixed}
use Rattle.bl_fixed.specs.Fixed.{saturated_difference, saturated_product, one, floor_of}
use Rattle.bl_fixed.specs.Fixed.{fits_i128, nearest_end}
use Rattle.bl_factor.specs.declared.others.NarrowEntry.{NarrowEntry}
use Rattle.bl_factor.specs.declared.sparse.Entry.{Entry}
use Rattle.bl_factor.specs.Vectors.{at}
use Rattle.bl_factor.specs.Sparse.{IsSparse}
use Rattle.bl_factor.specs.Others.{widened}
use Rattle.bl_factor.proofs.Numbers.{if-true}
use Rattle.bl_factor.proofs.SparseLemmas.{no_entry, next_entry, IsLess, IsLess-more}

-- ---- numbers
floor-shift : (z : ℤ) → floor_of z one ≡ shr_z z (2 ^ 40)
floor-shift (pos n) = refl
floor-shift (negsuc n) = refl

fits-small : (z : ℤ) → unsigned_abs z ≤ 2 ^ 126 → fits_i128 z ≡ true
fits-small (pos n) h = lt-ltb n (2 ^ 127) (omega arith)
fits-small (negsuc n) h = lt-ltb n (2 ^ 127) (omega (arith, h))

pub product-small : (a b : Fixed) (z : ℤ) → z ≡ a.raw *ℤ b.raw → unsigned_abs z ≤ 2 ^ 126
    → saturated_product a b ≡ record { raw = shr_z z (2 ^ 40) }
unfolding saturated_product
product-small a b z e h =
    let t = ap fits_i128 (sym e) ∙ fits-small z h in
    ap (λ (y : ℤ). record { raw = y })
    (if-true _ (floor_of (a.raw *ℤ b.raw) one) (nearest_end (floor_of (a.raw *ℤ b.raw) one)) t
    ∙ floor-shift (a.raw *ℤ b.raw) ∙ ap (λ (y : ℤ). shr_z y (2 ^ 40)) (sym e))

fits-shift : (z : ℤ) → FitsSigned w128 z → FitsSigned w128 (shr_z z (2 ^ 40))
fits-shift z f = let m = mag_shr z (2 ^ 40) in record { sfits = omega (arith, m, f.sfits) }

-- the shift, as the code reads it
pub shifted : (z : ℤ) → FitsSigned w128 z
    → to_z w128 (of_z w128 (shr_z (to_z w128 (of_z w128 z)) (2 ^ 40))) ≡ shr_z z (2 ^ 40)
shifted z f =
    ap (λ (y : ℤ). to_z w128 (of_z w128 (shr_z y (2 ^ 40)))) (to_z-of_z w128 z f)
    ∙ to_z-of_z w128 (shr_z z (2 ^ 40)) (fits-shift z f)

pub shift-small : (z : ℤ) → unsigned_abs z ≤ 2 ^ 126 → unsigned_abs (shr_z z (2 ^ 40)) < 2 ^ 126
shift-small (pos n) h = omega arith
shift-small (negsuc n) h = omega (arith, h)

saturate-fits : (z : ℤ) → FitsSigned w128 z → saturate_signed w128 z ≡ z
saturate-fits (pos n) f = let g = f.sfits in grind (arith, ints, nat_tests)
saturate-fits (negsuc n) f = let g = f.sfits in grind (arith, ints, nat_tests)

fits-difference : (x y : ℤ) → unsigned_abs x ≤ 2 ^ 126 → unsigned_abs y < 2 ^ 126
    → FitsSigned w128 (x -ℤ y)
fits-difference (pos a) (pos b) h k = record { sfits = grind (arith, ints) }
fits-difference (pos a) (negsuc b) h k = record { sfits = grind (arith, ints) }
fits-difference (negsuc a) (pos b) h k = record { sfits = grind (arith, ints) }
fits-difference (negsuc a) (negsuc b) h k = record { sfits = grind (arith, ints) }

-- the difference, as the code reads it
pub difference-small : (x y : Fixed) → FitsSigned w128 x.raw → FitsSigned w128 y.raw
    → unsigned_abs x.raw ≤ 2 ^ 126 → unsigned_abs y.raw < 2 ^ 126 →
    record {
      raw =
          to_z w128 (of_z w128 (to_z w128 (of_z w128 x.raw) -ℤ to_z w128 (of_z w128 y.raw)));
    }
    ≡ saturated_difference x y
unfolding saturated_difference
difference-small x y f g h k =
    let d = fits-difference x.raw y.raw h k in
    ap (λ (z : ℤ). record { raw = z })
    (ap (λ (z : ℤ). to_z w128 (of_z w128 (z -ℤ to_z w128 (of_z w128 y.raw))))
    (to_z-of_z w128 x.raw f)
    ∙ ap (λ (z : ℤ). to_z w128 (of_z w128 (x.raw -ℤ z))) (to_z-of_z w128 y.raw g)
    ∙ to_z-of_z w128 (x.raw -ℤ y.raw) d
    ∙ sym (saturate-fits (x.raw -ℤ y.raw) d))

pub size-between : (z : ℤ) → neg_ℤ (pos (2 ^ 126)) ≤ℤ z → z <ℤ pos (2 ^ 126) → unsigned_abs z
    ≤ 2 ^ 126
size-between (pos n) h k = omega (arith, ints, k)
size-between (negsuc n) h k = omega (arith, ints, h)

-- ---- lists
-- what the code reads past the end
abbrev pub no_narrow : NarrowEntry
no_narrow = record { raw = pos 0; place = 0 }

pub at-widened : (es : List NarrowEntry) (i : ℕ) → i < length es
    → get_or (map widened es) i no_entry ≡ widened (get_or es i no_narrow)
at-widened es i h = get_or-map widened es i no_narrow no_entry h

pub length-widened : (es : List NarrowEntry) → length (map widened es) ≡ length es
length-widened es = length-map es widened

pub narrow-below : (n : ℕ) (es : List NarrowEntry) (i : ℕ) → IsSparse 0 n (map widened es) → i
    < length es → (get_or es i no_narrow).place < n
narrow-below n es i s h =
    let x = next_entry 0 n (map widened es) i no_entry s (omega (arith, h, length-widened es)) in
    subst (λ (e : Entry). e.place < n) (at-widened es i h) x.below

pub IsLess-narrow : (xs ys : List Fixed) (es : List NarrowEntry) (q : Fixed) (i : ℕ)
    → IsSparse 0 (length ys) (map widened es) → i < length es → IsLess xs (map widened es) q i ys →
    IsLess xs (map widened es) q (i + 1) (set ys (get_or es i no_narrow).place
    (saturated_difference (at ys (get_or es i no_narrow).place)
    (saturated_product (widened (get_or es i no_narrow)).value q)))
IsLess-narrow xs ys es q i s h before =
    subst (λ (e : Entry). IsLess xs (map widened es) q (i + 1)
    (set ys e.place (saturated_difference (at ys e.place) (saturated_product e.value q))))
    (at-widened es i h)
    (IsLess-more xs ys (map widened es) q i s (omega (arith, h, length-widened es)) before)
