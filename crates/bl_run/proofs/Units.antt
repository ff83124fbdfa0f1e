-- Whole units in units of 10^-scale.
use Rattle.std.proofs.Common.{ℕ, ◌*◌, ◌^◌, ◌≤◌, arith}
use Rattle.std.proofs.Math.Nat.{mul-le-mul_left}
use Rattle.bl_num.proofs.Powers.{ten_pow-le}
use Rattle.bl_words.specs.declared.wish.TheConstants.{MOST_GAP}

pub units-small : (n scale : ℕ) → n ≤ MOST_GAP → scale ≤ 27 → n * 10 ^ scale ≤ 10 ^ 36
units-small n scale few h =
    let p : n * 10 ^ scale ≤ n * 10 ^ 27 = mul-le-mul_left n (ten_pow-le scale 27 h) in
    omega (arith, p, few)
