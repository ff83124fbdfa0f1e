-- A checked sum is there exactly where each partial sum from the left fits, and it is then the
-- exact sum.
use Rattle.std.proofs.Common.{◌≡◌, ℕ, zero, suc, ◌^◌, ℤ, pos, ◌+ℤ◌, refl, sym, ◌∙◌, ap, arith}
use Rattle.std.proofs.Common.{Option, Some, None, SomeIff, FitsSigned, nat_lt, cond, true, false}
use Rattle.std.proofs.Common.{Bool, ⊎_elim}
use Rattle.std.proofs.lemmas.Bool.{cases_lt}
use Rattle.std.proofs.lemmas.Bool.Decides.{nat_tests}
use Rattle.std.specs.Int.{w128}
use Rattle.bl_num.specs.Exact.{sum_below}
use Rattle.bl_num.specs.Checked.{i128_of, checked_add, checked_sum, PartialsFit}
use Rattle.bl_num.proofs.CheckedLemmas.{number, i128_of_fits, checked_add-some}
use lib.Signed.{mag}

i128_of-fits : (z v : ℤ) → i128_of z ≡ Some v → FitsSigned w128 z
i128_of-fits z v e = by (nat_lt (mag z) (2 ^ 127)) refl e
  where
    by : (t : Bool) → nat_lt (mag z) (2 ^ 127) ≡ t → cond t (Some z) None ≡ Some v
        → FitsSigned w128 z
    by true q r = record { sfits = grind (arith, nat_tests) }
    by false q r = absurd cc

module _ (f : ℕ → ℤ) where
  partials-some : (n : ℕ) → PartialsFit n f → checked_sum (Some (pos 0)) n (λ k. Some (f k))
      ≡ Some (sum_below n f)
  unfolding checked_sum
  partials-some zero p = refl
  partials-some (suc n) p =
      let i = partials-some n (λ k l. p k (omega arith)) in
      ap (λ (o : Option ℤ). checked_add o (Some (f n))) i
      ∙ i128_of_fits (sum_below n f +ℤ f n) (p (suc n) (omega arith))

  some-partials : (n : ℕ) (v : ℤ) → checked_sum (Some (pos 0)) n (λ k. Some (f k)) ≡ Some v
      → PartialsFit n f
  unfolding checked_sum
  some-partials zero v e = λ k l. let z : k ≡ 0 =
      omega arith in rw z (record { sfits = omega arith })
  some-partials (suc n) v e =
      let a = checked_add-some (checked_sum (Some (pos 0)) n (λ k. Some (f k))) (Some (f n)) v e in
      let below = some-partials n (number (checked_sum (Some (pos 0)) n (λ k. Some (f k)))) a.left
      in
      let s = ap (λ (o : Option ℤ). checked_add o (Some (f n))) (partials-some n below) in
      let t = i128_of-fits (sum_below n f +ℤ f n) v (sym s ∙ e) in
      λ k l. ⊎_elim (λ m. below k (omega arith)) (λ m. let z : k ≡ suc n = omega arith in rw z t)
      (cases_lt k (suc n))

pub checked_sum_iff : (f : ℕ → ℤ) (n : ℕ) (o : Option ℤ) → o
    ≡ checked_sum (Some (pos 0)) n (λ k. Some (f k)) → SomeIff o (PartialsFit n f) (sum_below n f)
checked_sum_iff f n None e = λ p. absurd (let q = e ∙ partials-some f n p in cc)
checked_sum_iff f n (Some v) e =
    let p = some-partials f n v (sym e) in
    let q = e ∙ partials-some f n p in
    (p, cc)
