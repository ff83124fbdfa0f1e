-- The terms of rounded coefficients: they are terms, and their sum is that over all columns.
use Rattle.std.proofs.Common.{◌≡◌, ℕ, zero, suc, ◌<◌, ◌≤◌, ◌^◌, ℤ, pos, negsuc, ◌+ℤ◌, ◌*ℤ◌, arith}
use Rattle.std.proofs.Common.{List, [], ◌∷◌, ◌++◌, fold, refl, ◌∙◌, ap, true, All, AllPairs}
use Rattle.std.proofs.Common.{append-nil, ⊎_elim}
use Rattle.std.specs.Prelude.{nat_le, unsigned_abs}
use Rattle.std.proofs.lemmas.Int.{ints}
use Rattle.std.proofs.lemmas.Bool.{and_parts}
use Rattle.std.proofs.lemmas.Bool.Decides.{nat_tests}
use Rattle.std.proofs.lemmas.List.Elements.{All-push}
use Rattle.std.proofs.lemmas.List.Quantifiers.{all_pairs_push}
use Rattle.std.proofs.lemmas.List.Sums.{fold-append}
use Rattle.std.proofs.Math.IntN.{zero-*ℤ}
use Rattle.std.proofs.lemmas.Bool.{cases_lt}
use Rattle.bl_num.specs.Exact.{sum_below, at}
use Rattle.bl_problem.specs.Sums.{IsWithin, sum_of_terms}
use Rattle.bl_problem.specs.Rows.{IsTerm, AreTerms}
use Rattle.bl_problem.specs.declared.problem.Term.{Term}
use Rattle.bl_cuts.specs.Derivations.{term_of, terms_below, are_small}

-- one more coefficient, added to a sum
adds : (x : List ℤ) (n : ℕ) (c s : ℤ) → fold (λ v (t : Term). v +ℤ t.coefficient *ℤ at x t.column)
    s (term_of n c) ≡ s +ℤ c *ℤ at x n
adds x n (pos zero) s = let z = zero-*ℤ (at x n) in omega (arith, ints, z)
adds x n (pos (suc k)) s = refl
adds x n (negsuc k) s = refl

pub sum_of-terms_below : (n : ℕ) (f : ℕ → ℤ) (x : List ℤ) → sum_of_terms (terms_below n f) x
    ≡ sum_below n (λ j. f j *ℤ at x j)
sum_of-terms_below zero f x = refl
sum_of-terms_below (suc n) f x =
    fold-append (λ v (t : Term). v +ℤ t.coefficient *ℤ at x t.column) (pos 0) (terms_below n f)
    (term_of n (f n))
    ∙ adds x n (f n) (sum_of_terms (terms_below n f) x)
    ∙ ap (λ (v : ℤ). v +ℤ f n *ℤ at x n) (sum_of-terms_below n f x)

-- terms over the first n columns, within the limits
pub record TermsBelow (n width : ℕ) (ts : List Term) : Type 0 where
  pub each : All (IsTerm width) ts
  pub below : All (λ t. t.column < n) ts
  pub rising : AllPairs (λ s t. s.column < t.column) ts

weaker : (n : ℕ) (ts : List Term) → All (λ t. t.column < n) ts → All (λ t. t.column < suc n) ts
weaker n ts h k d l = let b = h k d l in omega (arith, b)

pushed : (n width : ℕ) (ts : List Term) (t : Term) → TermsBelow n width ts → IsTerm width t
    → t.column ≡ n → TermsBelow (suc n) width (ts ++ t ∷ [])
pushed n width ts t h i e = record {
  each = All-push (IsTerm width) ts t h.each i;
  below = All-push (λ (s : Term). s.column < suc n) ts t (weaker n ts h.below) (omega (arith, e));
  rising = all_pairs_push (λ (a b : Term). a.column < b.column) ts t h.rising (λ k d l. let b =
      h.below k d l in omega (arith, b, e));
}

with_term : (n width : ℕ) (ts : List Term) (c : ℤ) → TermsBelow n width ts → n < width
    → IsWithin (10 ^ 15) c → TermsBelow (suc n) width (ts ++ term_of n c)
with_term n width ts (pos zero) h l s =
    rw append-nil (record { each = h.each; below = weaker n ts h.below; rising = h.rising })
with_term n width ts (pos (suc k)) h l s = pushed n width ts
    (record { column = n; coefficient = pos (suc k) }) h
    (record { column = l; coefficient = s; nonzero = λ e. cc }) refl
with_term n width ts (negsuc k) h l s = pushed n width ts
    (record { column = n; coefficient = negsuc k }) h
    (record { column = l; coefficient = s; nonzero = λ e. cc }) refl

small_at : (n : ℕ) (f : ℕ → ℤ) → are_small (suc n) f ≡ true → (are_small n f ≡ true)
    × IsWithin (10 ^ 15) (f n)
small_at n f e =
    let p = and_parts (are_small n f) (nat_le (unsigned_abs (f n)) (10 ^ 15)) e in
    (p.0, grind (arith, nat_tests, p.1))

below_terms : (n width : ℕ) (f : ℕ → ℤ) → n ≤ width → are_small n f ≡ true
    → TermsBelow n width (terms_below n f)
below_terms zero width f l e = record {
  each = λ k d q. absurd (omega arith);
  below =
      λ k d q. absurd (omega arith);
  rising = λ i j d p q. absurd (omega arith);
}
below_terms (suc n) width f l e =
    let s = small_at n f e in
    with_term n width (terms_below n f) (f n) (below_terms n width f (omega arith) s.0)
    (omega arith) s.1

pub are_terms-below : (n : ℕ) (f : ℕ → ℤ) → are_small n f ≡ true → AreTerms n (terms_below n f)
are_terms-below n f e = let b =
    below_terms n n f (omega arith) e in record { each = b.each; rising = b.rising }

-- the coefficient at a place is small where all are
pub small-each : (n : ℕ) (f : ℕ → ℤ) (j : ℕ) → are_small n f ≡ true → j < n
    → IsWithin (10 ^ 15) (f j)
small-each zero f j e l = absurd (omega arith)
small-each (suc n) f j e l =
    let s = small_at n f e in
    ⊎_elim (λ m. small-each n f j s.0 m) (λ m. let z : j ≡ n = omega arith in rw z s.1)
    (cases_lt j n)
