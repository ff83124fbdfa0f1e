-- The wrapping steps give the exact rest, since it fits.
use Rattle.std.proofs.Common.{arith, ◌≡◌, ◌*◌, ◌%◌, ◌^◌, ◌<◌, ◌∙◌, ap, ℤ, ℕ, ◌-ℤ◌, ◌*ℤ◌, int_rem}
use Rattle.std.proofs.Common.{to_z, of_z}
use Rattle.std.proofs.lemmas.Int.{ints, to_z-of_z, wrapping_sub-bits, wrapping_mul_is}
use Rattle.std.proofs.lemmas.Int.{int_wrap-sub_right, int_wrap_fits, quot-rem}
use Rattle.std.proofs.lemmas.Nat.{mod_below}
use Rattle.std.specs.Int.{w128, int_wrap}
use Rattle.bl_fixed.proofs.Quotients.{rem_fits}
use Rattle.bl_fixed.proofs.rest_of.Goals as goal

pub returns : goal.returns
returns c =
    let a = c.args.a in
    let b = c.args.b in
    let q = c.args.quotient in
    let f = c.ranges.a in
    let k : ℕ = (of_z w128 q * of_z w128 b) % 2 ^ 128 in
    let l : k < 2 ^ 128 = mod_below (of_z w128 q * of_z w128 b) (2 ^ 128) (omega arith) in
    let e = wrapping_sub-bits w128 (of_z w128 a) k (omega (arith, ints, f)) l in
    let m = wrapping_mul_is w128 q b c.ranges.quotient c.ranges.b in
    let s = int_wrap-sub_right w128 a (q *ℤ b) in
    let t = int_wrap_fits w128 (int_rem a b) (rem_fits a b f) in
    let r = quot-rem a b in
    let d : a -ℤ q *ℤ b ≡ int_rem a b = ap (λ (z : ℤ). a -ℤ z *ℤ b) c.requires
    ∙ omega (arith, ints, r) in
    let n : to_z w128 (of_z w128 a) ≡ a = to_z-of_z w128 a f in
    e ∙ ap (λ (z : ℤ). int_wrap w128 (z -ℤ to_z w128 k)) n
    ∙ ap (λ (z : ℤ). int_wrap w128 (a -ℤ z)) m
    ∙ s ∙ ap (λ (z : ℤ). int_wrap w128 z) d ∙ t
