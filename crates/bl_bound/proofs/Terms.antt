-- A sum over terms is the sum over all columns.
use Rattle.std.proofs.Common.{◌≡◌, ℕ, suc, ◌<◌, ℤ, pos, ◌+ℤ◌, ◌*ℤ◌, arith, List, [], ◌∷◌, length}
use Rattle.std.proofs.Common.{fold, refl, sym, ◌∙◌, ap, cond, true, false, Bool, eqb}
use Rattle.std.proofs.Common.{slice_index_or}
use Rattle.std.proofs.lemmas.Int.{ints}
use Rattle.std.proofs.lemmas.Bool.Decides.{nat_tests}
use Rattle.std.proofs.Math.IntN.{zero-*ℤ}
use Rattle.bl_num.specs.Exact.{sum_below, at}
use Rattle.bl_num.proofs.SumLemmas.{sum_below-same, sum_below-add, sum_below-only, sum_below-zero}
use Rattle.bl_problem.specs.Sums.{total, sum_of_terms}
use Rattle.bl_problem.specs.Rows.{AreTerms, coefficient_of}
use Rattle.bl_problem.specs.declared.problem.Term.{Term}

-- a sum that begins at a
total_from : {A : Type 0} (f : A → ℤ) (a : ℤ) (xs : List A) → fold (λ s x. s +ℤ f x) a xs
    ≡ a +ℤ total f xs
total_from f a [] = omega (arith, ints)
total_from f a (x ∷ xs) =
    let i = total_from f (a +ℤ f x) xs in
    let j = total_from f (pos 0 +ℤ f x) xs in
    omega (arith, ints, i, j)

pub total-cons : {A : Type 0} (f : A → ℤ) (x : A) (xs : List A) → total f (x ∷ xs)
    ≡ f x +ℤ total f xs
total-cons f x xs = let j = total_from f (pos 0 +ℤ f x) xs in omega (arith, ints, j)

-- terms after the first are terms
pub tail_terms : (n : ℕ) (t : Term) (ts : List Term) → AreTerms n (t ∷ ts) → AreTerms n ts
tail_terms n t ts h = record {
  each = λ k d l. h.each (suc k) d (omega arith);
  rising = λ i j d l m. h.rising (suc i) (suc j) d (omega arith) (omega arith);
}

-- no term at j: each term stands at a later column
pub absent : (ts : List Term) (j : ℕ)
    → ((k : ℕ) (d : Term) → k < length ts → j < (slice_index_or ts k d).column)
    → coefficient_of ts j ≡ pos 0
absent [] j h = refl
absent (t ∷ ts) j h =
    let a = h 0 t (omega arith) in
    let i = absent ts j (λ k d l. h (suc k) d (omega arith)) in
    step t ts j a i
  where
    step : (t : Term) (ts : List Term) (j : ℕ) → j < t.column → coefficient_of ts j ≡ pos 0
        → coefficient_of (t ∷ ts) j ≡ pos 0
    step t ts j a i = grind (arith, nat_tests)

-- the first term alone
alone : Term → ℕ → ℤ
alone t j = cond (eqb t.column j) t.coefficient (pos 0)

alone_at : (t : Term) → alone t t.column ≡ t.coefficient
unfolding alone
alone_at t = grind (arith, nat_tests)

alone_off : (t : Term) (j : ℕ) → ¬ (j ≡ t.column) → alone t j ≡ pos 0
unfolding alone
alone_off t j n = grind (arith, nat_tests)

split_first : (t : Term) (ts : List Term) (f : ℕ → ℤ → ℤ) (j : ℕ) → coefficient_of ts t.column
    ≡ pos 0 → f j (pos 0) ≡ pos 0 → f j (coefficient_of (t ∷ ts) j)
    ≡ f j (alone t j) +ℤ f j (coefficient_of ts j)
unfolding alone
split_first t ts f j a z = by (eqb t.column j) refl
  where
    by : (b : Bool) → eqb t.column j ≡ b → f j (cond b t.coefficient (coefficient_of ts j))
        ≡ f j (cond b t.coefficient (pos 0)) +ℤ f j (coefficient_of ts j)
    by true e = let k : t.column ≡ j = grind (arith, nat_tests) in let y = rw k at a in let w =
        ap (f j) y ∙ z in omega (arith, ints, w)
    by false e = omega (arith, ints, z)

-- a function of the coefficients that is 0 at 0, over all columns, is that function over the terms
pub spread : (n : ℕ) (ts : List Term) (f : ℕ → ℤ → ℤ) → AreTerms n ts
    → ((j : ℕ) → f j (pos 0) ≡ pos 0) → sum_below n (λ j. f j (coefficient_of ts j))
    ≡ total (λ t. f t.column t.coefficient) ts
spread n [] f h z = sum_below-zero n (λ j. f j (pos 0)) (λ k l. z k)
spread n (t ∷ ts) f h z =
    let lt = (h.each 0 t (omega arith)).column in
    let a = absent ts t.column (λ k d l. h.rising 0 (suc k) d (omega arith) (omega arith)) in
    let i = spread n ts f (tail_terms n t ts h) z in
    let e = sum_below-same n (λ j. f j (coefficient_of (t ∷ ts) j))
    (λ j. f j (alone t j) +ℤ f j (coefficient_of ts j)) (λ k l. split_first t ts f k a (z k)) in
    let b = sum_below-add n (λ j. f j (alone t j)) (λ j. f j (coefficient_of ts j)) in
    let o = sum_below-only n t.column (λ j. f j (alone t j)) lt
    (λ k l q. ap (f k) (alone_off t k q) ∙ z k) in
    let u = ap (f t.column) (alone_at t) in
    e ∙ b ∙ ap (λ (v : ℤ). v +ℤ sum_below n (λ j. f j (coefficient_of ts j))) (o ∙ u)
    ∙ ap (λ (v : ℤ). f t.column t.coefficient +ℤ v) i
    ∙ sym (total-cons (λ (s : Term). f s.column s.coefficient) t ts)

pub dense : (n : ℕ) (ts : List Term) (x : List ℤ) → AreTerms n ts
    → sum_below n (λ j. coefficient_of ts j *ℤ at x j) ≡ sum_of_terms ts x
dense n ts x h = spread n ts (λ j a. a *ℤ at x j) h (λ j. zero-*ℤ (at x j))
