-- The quotient rounded down and up: each is the number that the order singles out.
use Rattle.std.proofs.Common.{◌≡◌, ◌<◌, ℤ, pos, negsuc, ◌+ℤ◌, ◌*ℤ◌, neg_ℤ, ◌≤ℤ◌, ◌<ℤ◌, arith}
use Rattle.std.proofs.Common.{FitsSigned}
use Rattle.std.proofs.lemmas.Int.{ints, by_lt_z}
use Rattle.std.proofs.Math.Nat.{mod-lt, div-le_self}
use Rattle.std.specs.Int.{int_rem_euclid}
use Rattle.bl_num.specs.Exact.{floor_of, ceil_of}
use Rattle.bl_num.proofs.Ring.{*ℤ-le, *ℤ-le_turned, +ℤ-*ℤ, *ℤ_pos1, neg-*ℤ}
use Rattle.std.proofs.Math.IntN.{*ℤ_comm, zero-*ℤ}
use mir.Syntax.{Width}

pub floor-rem : (a b : ℤ) → pos 1 ≤ℤ b → floor_of a b *ℤ b +ℤ int_rem_euclid a b ≡ a
floor-rem (pos a) (pos b) h = omega (arith, ints)
floor-rem (negsuc a) (pos b) h = let p : 0 < b = omega (arith, ints) in let k =
    mod-lt a p in omega (arith, ints)
floor-rem a (negsuc b) h = absurd (omega (arith, ints))

pub rem_range : (a b : ℤ) → pos 1 ≤ℤ b → (pos 0 ≤ℤ int_rem_euclid a b) × (int_rem_euclid a b <ℤ b)
rem_range (pos a) (pos b) h = let p : 0 < b = omega (arith, ints) in let k =
    mod-lt a p in (omega (arith, ints), omega (arith, ints))
rem_range (negsuc a) (pos b) h = let p : 0 < b = omega (arith, ints) in let k =
    mod-lt a p in (omega (arith, ints), omega (arith, ints))
rem_range a (negsuc b) h = absurd (omega (arith, ints))

pub floor-times : (a b : ℤ) → pos 1 ≤ℤ b → (floor_of a b *ℤ b) ≤ℤ a
floor-times a b h = let e = floor-rem a b h in let r = rem_range a b h in omega (arith, ints)

pub floor-next : (a b : ℤ) → pos 1 ≤ℤ b → a <ℤ ((floor_of a b +ℤ pos 1) *ℤ b)
floor-next a b h =
    let e = floor-rem a b h in
    let r = rem_range a b h in
    let d = +ℤ-*ℤ (floor_of a b) (pos 1) b in
    let o = *ℤ_pos1 b in
    omega (arith, ints)

-- a multiple below another has a smaller factor
pub factor_lt : (p q b : ℤ) → pos 1 ≤ℤ b → (p *ℤ b) <ℤ (q *ℤ b) → p <ℤ q
factor_lt p q b h k = by_lt_z p q (λ l. l) (λ l.
    let m = *ℤ-le b q p (omega (arith, ints)) l in
    let e = *ℤ_comm b q in
    let f = *ℤ_comm b p in
    absurd (omega (arith, ints)))

-- q is at most a / b rounded down exactly where q times b is at most a
pub le_floor : (q a b : ℤ) → pos 1 ≤ℤ b → (q *ℤ b) ≤ℤ a → q ≤ℤ floor_of a b
le_floor q a b h k =
    let n = floor-next a b h in
    let l = factor_lt q (floor_of a b +ℤ pos 1) b h (omega (arith, ints)) in
    omega (arith, ints)

pub le-ceil_times : (a b : ℤ) → pos 1 ≤ℤ b → a ≤ℤ (ceil_of a b *ℤ b)
le-ceil_times a b h =
    let t = floor-times (neg_ℤ a) b h in
    let e = neg-*ℤ (floor_of (neg_ℤ a) b) b in
    omega (arith, ints)

-- a / b rounded up is at most q exactly where a is at most q times b
pub ceil_le : (q a b : ℤ) → pos 1 ≤ℤ b → a ≤ℤ (q *ℤ b) → ceil_of a b ≤ℤ q
ceil_le q a b h k =
    let e = neg-*ℤ q b in
    let l = le_floor (neg_ℤ q) (neg_ℤ a) b h (omega (arith, ints)) in
    omega (arith, ints)

pub ceil-whole : (a b : ℤ) → pos 1 ≤ℤ b → int_rem_euclid a b ≡ pos 0 → floor_of a b ≡ ceil_of a b
ceil-whole a b h r =
    let e = floor-rem a b h in
    let u = ceil_le (floor_of a b) a b h (omega (arith, ints)) in
    let t = le-ceil_times a b h in
    let c = by_lt_z (ceil_of a b) (floor_of a b) (λ l.
    let m = *ℤ-le b (ceil_of a b +ℤ pos 1) (floor_of a b) (omega (arith, ints))
    (omega (arith, ints)) in
    let e1 = *ℤ_comm b (ceil_of a b +ℤ pos 1) in
    let e2 = *ℤ_comm b (floor_of a b) in
    let e3 = +ℤ-*ℤ (ceil_of a b) (pos 1) b in
    let e4 = *ℤ_pos1 b in
    absurd (omega (arith, ints))) (λ l. l) in
    omega (arith, ints)

pub ceil-more : (a b : ℤ) → pos 1 ≤ℤ b → ¬ (int_rem_euclid a b ≡ pos 0) → floor_of a b +ℤ pos 1
    ≡ ceil_of a b
ceil-more a b h r =
    let e = floor-rem a b h in
    let g = rem_range a b h in
    let n = floor-next a b h in
    let u = ceil_le (floor_of a b +ℤ pos 1) a b h (omega (arith, ints)) in
    let t = le-ceil_times a b h in
    let l = factor_lt (floor_of a b) (ceil_of a b) b h (omega (arith, ints)) in
    omega (arith, ints)

-- b times a, for b of at least 1, is no closer to 0 than a
pub times_up : (a b : ℤ) → pos 1 ≤ℤ b → pos 0 ≤ℤ a → a ≤ℤ (a *ℤ b)
times_up a b h k = let m = *ℤ-le a (pos 1) b k h in let e = *ℤ_comm a (pos 1) in let f =
    *ℤ_pos1 a in omega (arith, ints)

pub times_down : (a b : ℤ) → pos 1 ≤ℤ b → a ≤ℤ pos 0 → (a *ℤ b) ≤ℤ a
times_down a b h k = let m = *ℤ-le_turned a (pos 1) b k h in let e = *ℤ_comm a (pos 1) in let f =
    *ℤ_pos1 a in omega (arith, ints)

pub ceil_fits : (w : Width) (a b : ℤ) → pos 1 ≤ℤ b → FitsSigned w a → FitsSigned w (ceil_of a b)
ceil_fits w a b h f = by_lt_z a (pos 0)
    (λ l. let u = ceil_le (pos 0) a b h (let z = zero-*ℤ b in omega (arith, ints)) in
    by_lt_z (ceil_of a b) (pos 0) (λ m. let t = le-ceil_times a b h in let d =
    times_down (ceil_of a b) b h (omega (arith, ints)) in omega (arith, ints))
    (λ m. omega (arith, ints)))
    (λ l. let u = ceil_le a a b h (times_up a b h l) in
    by_lt_z (ceil_of a b) (pos 0) (λ m. let t = le-ceil_times a b h in let d =
    times_down (ceil_of a b) b h (omega (arith, ints)) in omega (arith, ints))
    (λ m. omega (arith, ints)))

-- of a number that is not negative, the quotient rounded down lies between 0 and it
pub floor_range : (a b : ℤ) → pos 1 ≤ℤ b → pos 0 ≤ℤ a → (pos 0 ≤ℤ floor_of a b)
    × (floor_of a b ≤ℤ a)
floor_range (pos a) (pos b) h k = let d =
    div-le_self a b in (omega (arith, ints), omega (arith, ints, d))
floor_range (negsuc a) b h k = absurd (omega (arith, ints))
floor_range a (negsuc b) h k = absurd (omega (arith, ints))
