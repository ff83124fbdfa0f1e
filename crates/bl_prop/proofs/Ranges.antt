-- What the code's quotients and branches are.
use Rattle.std.proofs.Common.{◌≡◌, ℕ, zero, suc, ℤ, pos, negsuc, ◌+ℤ◌, ◌-ℤ◌, ◌*ℤ◌, neg_ℤ, ◌≤ℤ◌}
use Rattle.std.proofs.Common.{arith, refl, Bool, true, false, cond, int_lt, ◌∙◌, ap, ◌<ℤ◌}
use Rattle.std.proofs.lemmas.Int.{ints}
use Rattle.std.proofs.Math.IntN.{*ℤ_comm}
use Rattle.bl_num.specs.Exact.{at, floor_of}
use Rattle.bl_num.proofs.Quotients.{le_floor}
use Rattle.bl_prop.specs.declared.pass.Pass.{Pass}
use Rattle.bl_prop.specs.Passes.{turned, cut_by, lowered_high, raised_low}

pub cut_by-pos : (s : ℤ) (j : ℕ) (a : ℤ) (pass : Pass) → pos 1 ≤ℤ a → cut_by s j a pass
    ≡ lowered_high j (at pass.lows j +ℤ floor_of s a) pass
cut_by-pos s j (pos zero) pass h = absurd (omega (arith, ints))
cut_by-pos s j (pos (suc n)) pass h = refl
cut_by-pos s j (negsuc n) pass h = absurd (omega (arith, ints))

pub cut_by-neg : (s : ℤ) (j : ℕ) (a : ℤ) (pass : Pass) → pos 1 ≤ℤ neg_ℤ a → cut_by s j a pass
    ≡ raised_low j (at pass.highs j -ℤ floor_of s (neg_ℤ a)) pass
cut_by-neg s j (pos zero) pass h = absurd (omega (arith, ints))
cut_by-neg s j (pos (suc n)) pass h = absurd (omega (arith, ints))
cut_by-neg s j (negsuc n) pass h = refl

-- a coefficient whose size times the column's width is within the slack decides nothing
kept_where : (t : Bool) (pass other : Pass) → t ≡ false → cond t other pass ≡ pass
kept_where true pass other e = absurd cc
kept_where false pass other e = refl

not_lower : (a b : ℤ) → b ≤ℤ a → int_lt a b ≡ false
not_lower a b h = grind (arith, ints)

lower : (a b : ℤ) → a <ℤ b → int_lt a b ≡ true
lower a b h = grind (arith, ints)

kept-high : (v : ℤ) (j : ℕ) (pass : Pass) → at pass.highs j ≤ℤ v → lowered_high j v pass ≡ pass
kept-high v j pass h = kept_where (int_lt v (at pass.highs j)) pass _
    (not_lower v (at pass.highs j) h)

kept-low : (v : ℤ) (j : ℕ) (pass : Pass) → v ≤ℤ at pass.lows j → raised_low j v pass ≡ pass
kept-low v j pass h = kept_where (int_lt (at pass.lows j) v) pass _ (not_lower (at pass.lows j) v h)

pub loose : (s : ℤ) (j : ℕ) (a size : ℤ) (pass : Pass) → size ≡ turned (int_lt a (pos 0)) a
    → (size *ℤ (at pass.highs j -ℤ at pass.lows j)) ≤ℤ s → cut_by s j a pass ≡ pass
loose s j (pos zero) size pass e h = refl
loose s j (pos (suc n)) size pass e h =
    let q = e ∙ ap (λ (b : Bool). turned b (pos (suc n)))
    (not_lower (pos (suc n)) (pos 0) (omega (arith, ints))) in
    let m = rw (q, *ℤ_comm (pos (suc n)) (at pass.highs j -ℤ at pass.lows j)) at h in
    let k = le_floor (at pass.highs j -ℤ at pass.lows j) s (pos (suc n)) (omega (arith, ints)) m in
    kept-high (at pass.lows j +ℤ floor_of s (pos (suc n))) j pass (omega (arith, ints, k))
loose s j (negsuc n) size pass e h =
    let q = e ∙ ap (λ (b : Bool). turned b (negsuc n))
    (lower (negsuc n) (pos 0) (omega (arith, ints))) in
    let m = rw (q, *ℤ_comm (pos (suc n)) (at pass.highs j -ℤ at pass.lows j)) at h in
    let k = le_floor (at pass.highs j -ℤ at pass.lows j) s (pos (suc n)) (omega (arith, ints)) m in
    kept-low (at pass.highs j -ℤ floor_of s (pos (suc n))) j pass (omega (arith, ints, k))
