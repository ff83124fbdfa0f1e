-- The laws of ℤ that std lacks.
use Rattle.std.proofs.Common.{◌≡◌, ℕ, zero, suc, ◌*◌, ℤ, pos, negsuc, ◌+ℤ◌, ◌*ℤ◌, neg_ℤ, ◌≤ℤ◌, ap}
use Rattle.std.proofs.Common.{arith}
use Rattle.std.proofs.lemmas.Int.{ints}
use Rattle.std.proofs.Math.Nat.{mul-le-mul_left}
use borrow.Author.Differences.{up, down, sum_is_lem, product_is, le_out}

pub *ℤ-+ℤ : (a b c : ℤ) → a *ℤ (b +ℤ c) ≡ a *ℤ b +ℤ a *ℤ c
*ℤ-+ℤ a b c =
    let e = sum_is_lem b c in
    let p = ap (λ (x : ℕ). up a * x) e in
    let q = ap (λ (x : ℕ). down a * x) e in
    omega (arith, ints, p, q)

pub +ℤ-*ℤ : (a b c : ℤ) → (a +ℤ b) *ℤ c ≡ a *ℤ c +ℤ b *ℤ c
+ℤ-*ℤ a b c =
    let e = sum_is_lem a b in
    let p = ap (λ (x : ℕ). up c * x) e in
    let q = ap (λ (x : ℕ). down c * x) e in
    omega (arith, ints, p, q)

pub *ℤ_assoc : (a b c : ℤ) → (a *ℤ b) *ℤ c ≡ a *ℤ (b *ℤ c)
*ℤ_assoc a b c =
    let e = product_is a b in
    let f = product_is b c in
    let e0 = ap (λ (x : ℕ). x * up c) e.0 in
    let e1 = ap (λ (x : ℕ). x * down c) e.0 in
    let e2 = ap (λ (x : ℕ). x * up c) e.1 in
    let e3 = ap (λ (x : ℕ). x * down c) e.1 in
    let f0 = ap (λ (x : ℕ). up a * x) f.0 in
    let f1 = ap (λ (x : ℕ). down a * x) f.0 in
    let f2 = ap (λ (x : ℕ). up a * x) f.1 in
    let f3 = ap (λ (x : ℕ). down a * x) f.1 in
    omega (arith, ints, e0, e1, e2, e3, f0, f1, f2, f3)

-- a factor that is not negative keeps an order
pub *ℤ-le : (a b c : ℤ) → pos 0 ≤ℤ a → b ≤ℤ c → (a *ℤ b) ≤ℤ (a *ℤ c)
*ℤ-le (pos n) b c h k =
    let e = mul-le-mul_left n (le_out b c k) in
    omega (arith, ints, e)
*ℤ-le (negsuc n) b c h k = absurd (omega (arith, ints))

pub neg-*ℤ : (a b : ℤ) → neg_ℤ a *ℤ b ≡ neg_ℤ (a *ℤ b)
neg-*ℤ (pos zero) b = omega (arith, ints)
neg-*ℤ (pos (suc n)) b = omega (arith, ints)
neg-*ℤ (negsuc n) b = omega (arith, ints)

-- and one that is not positive turns it
pub *ℤ-le_turned : (a b c : ℤ) → a ≤ℤ pos 0 → b ≤ℤ c → (a *ℤ c) ≤ℤ (a *ℤ b)
*ℤ-le_turned a b c h k =
    let m = *ℤ-le (neg_ℤ a) b c (omega (arith, ints)) k in
    let e = neg-*ℤ a b in
    let f = neg-*ℤ a c in
    omega (arith, ints)

pub *ℤ_pos1 : (a : ℤ) → pos 1 *ℤ a ≡ a
*ℤ_pos1 a = omega (arith, ints)

pub ≤ℤ_antisym : (a b : ℤ) → a ≤ℤ b → b ≤ℤ a → a ≡ b
≤ℤ_antisym a b h k = omega (arith, ints)
