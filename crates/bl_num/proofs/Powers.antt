-- Powers of ten.
use Rattle.std.proofs.Common.{◌≡◌, ℕ, ◌+◌, ◌*◌, ◌^◌, ◌<◌, ◌≤◌, arith, add-one}
use Rattle.std.proofs.Math.Nat.{pow-le-pow_right, pow-succ', mul-le-mul}

pub ten_pow-le : (k m : ℕ) → k ≤ m → 10 ^ k ≤ 10 ^ m
ten_pow-le k m h = pow-le-pow_right (omega arith) h

-- no power of ten is 0
pub ten_pow-positive : (k : ℕ) → 0 < 10 ^ k
ten_pow-positive k = omega (arith, ten_pow-le 0 k (omega arith))

-- a number that is not 0, times a power
pub times_ten_pow-le : (n k m : ℕ) → 0 < n → k ≤ m → 10 ^ k ≤ n * 10 ^ m
times_ten_pow-le n k m p h = let one : 1 ≤ n = omega arith in let e =
    mul-le-mul one (ten_pow-le k m h) in omega arith

pub ten_pow-more : (k : ℕ) → 10 ^ (k + 1) ≡ 10 * 10 ^ k
ten_pow-more k = rw add-one (pow-succ' 10 k)

-- a power of ten makes a number no smaller
pub no_less : (n b : ℕ) → n ≤ n * 10 ^ b
no_less n b = let p : 1 ≤ 10 ^ b = ten_pow-positive b in let l : n ≤ n = omega arith in let m =
    mul-le-mul l p in omega arith
