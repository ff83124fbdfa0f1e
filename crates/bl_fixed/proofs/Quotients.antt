-- The quotient rounded down, from the one that is rounded toward zero.
use Rattle.std.proofs.Common.{◌≡◌, ◌≢◌, ℕ, zero, suc, ◌+◌, ◌-◌, ◌*◌, ◌/◌, ◌%◌, ◌<◌, ℤ, pos}
use Rattle.std.proofs.Common.{negsuc, ◌-ℤ◌, ◌<ℤ◌, ◌≤ℤ◌, refl, sym, ap, subst, arith, FitsSigned}
use Rattle.std.proofs.Common.{int_div, int_rem}
use Rattle.std.proofs.lemmas.Int.{ints}
use Rattle.std.proofs.lemmas.Nat.{div-add-mod', div-mul-add, mod_below}
use Rattle.std.specs.Int.{w128}
use Rattle.bl_fixed.specs.Fixed.{floor_of}
use native.Mathlib.Nat.{div-le_self}
use lib.Signed.{mag_rem}

-- one step below a multiple of b, the quotient is one less
div-pred_multiple : (n b : ℕ) → 0 < b → suc n % b ≡ 0 → suc n / b ≡ suc (n / b)
div-pred_multiple n b h e = from (suc n / b) refl
  where
    from : (q : ℕ) → suc n / b ≡ q → suc n / b ≡ suc (n / b)
    from zero p =
        let m = div-add-mod' (suc n) b in
        let k = ap (λ (x : ℕ). x * b) p in
        absurd (omega arith)
    from (suc q) p =
        let m = div-add-mod' (suc n) b in
        let k = ap (λ (x : ℕ). x * b) p in
        let s : q * b + (b - 1) ≡ n = omega arith in
        let d = div-mul-add q b (b - 1) (omega arith) in
        let t : n / b ≡ q = subst (λ (x : ℕ). x / b ≡ q) s d in
        omega arith

-- elsewhere it stays
div-pred_other : (n b : ℕ) → 0 < b → suc n % b ≢ 0 → suc n / b ≡ n / b
div-pred_other n b h e = from (suc n % b) refl
  where
    from : (r : ℕ) → suc n % b ≡ r → suc n / b ≡ n / b
    from zero p = absurd (e p)
    from (suc r) p =
        let m = div-add-mod' (suc n) b in
        let l = mod_below (suc n) b h in
        let s : (suc n / b) * b + r ≡ n = omega arith in
        let d = div-mul-add (suc n / b) b r (omega arith) in
        subst (λ (x : ℕ). suc n / b ≡ x / b) s (sym d)

-- where the rest and a positive b have different signs, and else
pub floor-above : (a b : ℤ) → pos 0 <ℤ b → int_rem a b <ℤ pos 0 → floor_of a b
    ≡ int_div a b -ℤ pos 1
floor-above (pos a) (pos b) h k = absurd (omega (arith, ints))
floor-above (negsuc a) (pos b) h k =
    let e = div-pred_other a b (omega (arith, ints)) (λ z. omega (arith, ints)) in
    omega (arith, ints)
floor-above a (negsuc b) h k = absurd (omega (arith, ints))

pub floor-exact : (a b : ℤ) → pos 0 <ℤ b → pos 0 ≤ℤ int_rem a b → floor_of a b ≡ int_div a b
floor-exact (pos a) (pos b) h k = refl
floor-exact (negsuc a) (pos b) h k =
    let e = div-pred_multiple a b (omega (arith, ints)) (omega (arith, ints)) in
    omega (arith, ints)
floor-exact a (negsuc b) h k = absurd (omega (arith, ints))

-- the same for a negative b
pub floor-above_negative : (a b : ℤ) → b <ℤ pos 0 → pos 0 <ℤ int_rem a b → floor_of a b
    ≡ int_div a b -ℤ pos 1
floor-above_negative a (pos b) h k = absurd (omega (arith, ints))
floor-above_negative (pos zero) (negsuc b) h k =
    absurd (let z = mod_below 0 (suc b) (omega arith) in omega (arith, ints))
floor-above_negative (pos (suc a)) (negsuc b) h k =
    let e = div-pred_other a (suc b) (omega arith) (λ z. omega (arith, ints)) in
    omega (arith, ints)
floor-above_negative (negsuc a) (negsuc b) h k = absurd (omega (arith, ints))

pub floor-exact_negative : (a b : ℤ) → b <ℤ pos 0 → int_rem a b ≤ℤ pos 0 → floor_of a b
    ≡ int_div a b
floor-exact_negative a (pos b) h k = absurd (omega (arith, ints))
floor-exact_negative (pos zero) (negsuc b) h k = omega (arith, ints)
floor-exact_negative (pos (suc a)) (negsuc b) h k =
    let e = div-pred_multiple a (suc b) (omega arith) (omega (arith, ints)) in
    omega (arith, ints)
floor-exact_negative (negsuc a) (negsuc b) h k = refl

-- it fits wherever the dividend does, since only MIN over -1 leaves the range
pub floor_fits-above : (a b : ℤ) → FitsSigned w128 a → pos 0 <ℤ b → FitsSigned w128 (floor_of a b)
floor_fits-above (pos a) (pos b) f h = let d = div-le_self a b in omega (arith, ints)
floor_fits-above (negsuc a) (pos b) f h = let d = div-le_self a b in omega (arith, ints)
floor_fits-above a (negsuc b) f h = absurd (omega (arith, ints))

pub floor_fits-above_negative : (a b : ℤ) → FitsSigned w128 a → b <ℤ pos 0 → pos 0 <ℤ int_rem a b
    → FitsSigned w128 (floor_of a b)
floor_fits-above_negative a (pos b) f h k = absurd (omega (arith, ints))
floor_fits-above_negative (pos zero) (negsuc b) f h k = omega (arith, ints)
floor_fits-above_negative (pos (suc a)) (negsuc b) f h k = let d =
    div-le_self a (suc b) in omega (arith, ints)
floor_fits-above_negative (negsuc a) (negsuc b) f h k = absurd (omega (arith, ints))

pub rem_fits : (a b : ℤ) → FitsSigned w128 a → FitsSigned w128 (int_rem a b)
rem_fits a b f = let m = mag_rem a b in record { sfits = omega (arith, f.sfits) }
