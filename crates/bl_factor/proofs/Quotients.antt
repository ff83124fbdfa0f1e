-- The quotient rounded down, from that of the sizes.
use Rattle.std.proofs.Common.{◌≡◌, ℕ, zero, suc, ◌+◌, ◌-◌, ◌*◌, ◌/◌, ◌<◌, ◌^◌, Bool, true, false}
use Rattle.std.proofs.Common.{ℤ, pos, negsuc, ◌*ℤ◌, ◌<ℤ◌, ◌≤ℤ◌, neg_ℤ, nat_eq, if◌then◌else◌}
use Rattle.std.proofs.Common.{◌&&◌, refl, sym, ap, ◌∙◌, arith, unsigned_abs}
use Rattle.std.proofs.lemmas.Int.{ints, unsigned_abs-mul}
use Rattle.std.proofs.lemmas.Nat.{div-mul-add}
use Rattle.std.proofs.lemmas.Bool.{lt-ltb}
use Rattle.std.proofs.lemmas.Bool.Decides.{nat_tests}
use Rattle.bl_fixed.specs.declared.Fixed.{Fixed}
use Rattle.bl_fixed.specs.Fixed.{saturated_quotient, one, floor_of, fits_i128, nearest_end}
use Rattle.bl_factor.proofs.Numbers.{if-true}

-- the quotient with its sign: where the signs differ, a rest makes it one less
abbrev pub signed_quotient : ℤ → ℤ → ℕ → ℕ → ℤ
signed_quotient (pos a) (pos b) q r = pos q
signed_quotient (negsuc a) (negsuc b) q r = pos q
signed_quotient (pos a) (negsuc b) q r = if nat_eq r 0 then neg_ℤ (pos q) else negsuc q
signed_quotient (negsuc a) (pos b) q r = if nat_eq r 0 then neg_ℤ (pos q) else negsuc q

quotient-below : (n q r d : ℕ) → suc n ≡ q * d + r → r < d → negsuc (n / d)
    ≡ (if nat_eq r 0 then neg_ℤ (pos q) else negsuc q)
quotient-below n zero zero d e h = absurd (omega (arith, e))
quotient-below n (suc q) zero d e h =
    let k : n ≡ q * d + (d - 1) = omega (arith, e, h) in
    ap (λ (m : ℕ). negsuc (m / d)) k ∙ ap negsuc (div-mul-add q d (d - 1) (omega (arith, h)))
quotient-below n q (suc r) d e h =
    let k : n ≡ q * d + r = omega (arith, e) in
    let t : nat_eq (suc r) 0 ≡ false = grind (arith, nat_tests) in
    ap (λ (m : ℕ). negsuc (m / d)) k ∙ ap negsuc (div-mul-add q d r (omega (arith, h)))
    ∙ sym (ap (λ (b : Bool). if b then neg_ℤ (pos q) else negsuc q) t)

floor-known : (z p : ℤ) (q r : ℕ) → 0 < unsigned_abs z → unsigned_abs z ≡ q * unsigned_abs p + r
    → r < unsigned_abs p → floor_of z p ≡ signed_quotient z p q r
floor-known (pos n) (pos d) q r f e h = ap (λ (m : ℕ). pos (m / d)) e ∙ ap pos (div-mul-add q d r h)
floor-known (pos zero) (negsuc d) q r f e h = absurd (omega (arith, f))
floor-known (pos (suc n)) (negsuc d) q r f e h = quotient-below n q r (suc d) e h
floor-known (negsuc n) (pos d) q r f e h = quotient-below n q r d e h
floor-known (negsuc n) (negsuc d) q r f e h = ap (λ (m : ℕ). pos (m / suc d)) e
    ∙ ap pos (div-mul-add q (suc d) r h)

fits-below : (q r : ℕ) → q < 2 ^ 64 → fits_i128 (if nat_eq r 0 then neg_ℤ (pos q) else negsuc q)
    ≡ true
fits-below zero zero h = refl
fits-below (suc q) zero h = lt-ltb q (2 ^ 127) (omega arith)
fits-below q (suc r) h =
    let t : nat_eq (suc r) 0 ≡ false = grind (arith, nat_tests) in
    ap (λ (b : Bool). fits_i128 (if b then neg_ℤ (pos q) else negsuc q)) t
    ∙ lt-ltb q (2 ^ 127) (omega arith)

fits-quotient : (z p : ℤ) (q r : ℕ) → q < 2 ^ 64 → fits_i128 (signed_quotient z p q r) ≡ true
fits-quotient (pos a) (pos b) q r h = lt-ltb q (2 ^ 127) (omega arith)
fits-quotient (negsuc a) (negsuc b) q r h = lt-ltb q (2 ^ 127) (omega arith)
fits-quotient (pos a) (negsuc b) q r h = fits-below q r h
fits-quotient (negsuc a) (pos b) q r h = fits-below q r h

size-one : (z : ℤ) → unsigned_abs (z *ℤ one) ≡ unsigned_abs z * 2 ^ 40
size-one z = unsigned_abs-mul z one

fits-size : (z : ℤ) → unsigned_abs z < 2 ^ 127 → fits_i128 z ≡ true
fits-size (pos n) h = lt-ltb n (2 ^ 127) (omega arith)
fits-size (negsuc n) h = lt-ltb n (2 ^ 127) (omega (arith, h))

negative : (a : ℕ) → negsuc a *ℤ one ≡ negsuc (a * 2 ^ 40 + (2 ^ 40 - 1))
negative a = omega (arith, ints)

-- the sign does not change by a factor of 2^40
signed-one : (z p : ℤ) (q r : ℕ) → signed_quotient (z *ℤ one) p q r ≡ signed_quotient z p q r
signed-one (pos a) (pos b) q r = refl
signed-one (pos a) (negsuc b) q r = refl
signed-one (negsuc a) (pos b) q r = ap (λ (y : ℤ). signed_quotient y (pos b) q r) (negative a)
signed-one (negsuc a) (negsuc b) q r = ap (λ (y : ℤ). signed_quotient y (negsuc b) q r) (negative a)

pub quotient-known : (x p : Fixed) (q r : ℕ) → 0 < unsigned_abs x.raw → unsigned_abs x.raw
    < 2 ^ 64 → q < 2 ^ 64 →
    unsigned_abs x.raw * 2 ^ 40 ≡ q * unsigned_abs p.raw + r → r < unsigned_abs p.raw
    → saturated_quotient x p ≡ record { raw = signed_quotient x.raw p.raw q r }
unfolding saturated_quotient
quotient-known x p q r f s h e l =
    let z = x.raw *ℤ one in
    let m = size-one x.raw in
    let v : floor_of z p.raw ≡ signed_quotient x.raw p.raw q r =
    floor-known z p.raw q r (omega (arith, m, f)) (m ∙ e) l ∙ signed-one x.raw p.raw q r in
    let t : (fits_i128 z && fits_i128 (floor_of z p.raw)) ≡ true =
    ap (λ (b : Bool). b && fits_i128 (floor_of z p.raw)) (fits-size z (omega (arith, m, s)))
    ∙ ap fits_i128 v ∙ fits-quotient x.raw p.raw q r h in
    ap (λ (y : ℤ). record { raw = y })
    (if-true _ (floor_of z p.raw) (nearest_end (floor_of z p.raw)) t ∙ v)

pub signed-up : (z p : ℤ) (q r : ℕ) → z <ℤ pos 0 → p <ℤ pos 0 → signed_quotient z p q r ≡ pos q
signed-up (pos a) p q r h k = absurd (omega (arith, ints, h))
signed-up (negsuc a) (pos b) q r h k = absurd (omega (arith, ints, k))
signed-up (negsuc a) (negsuc b) q r h k = refl

pub signed-plain : (z p : ℤ) (q r : ℕ) → pos 0 ≤ℤ z → pos 0 ≤ℤ p → signed_quotient z p q r ≡ pos q
signed-plain (negsuc a) p q r h k = absurd (omega (arith, ints, h))
signed-plain (pos a) (negsuc b) q r h k = absurd (omega (arith, ints, k))
signed-plain (pos a) (pos b) q r h k = refl

pub signed-down : (z p : ℤ) (q r : ℕ) → z <ℤ pos 0 → pos 0 ≤ℤ p → signed_quotient z p q r
    ≡ (if nat_eq r 0 then neg_ℤ (pos q) else negsuc q)
signed-down (pos a) p q r h k = absurd (omega (arith, ints, h))
signed-down (negsuc a) (negsuc b) q r h k = absurd (omega (arith, ints, k))
signed-down (negsuc a) (pos b) q r h k = refl

pub signed-under : (z p : ℤ) (q r : ℕ) → pos 0 ≤ℤ z → p <ℤ pos 0 → signed_quotient z p q r
    ≡ (if nat_eq r 0 then neg_ℤ (pos q) else negsuc q)
signed-under (negsuc a) p q r h k = absurd (omega (arith, ints, h))
signed-under (pos a) (pos b) q r h k = absurd (omega (arith, ints, k))
signed-under (pos a) (negsuc b) q r h k = refl
