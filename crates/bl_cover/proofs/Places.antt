-- The places of terms and of listed columns.
use Rattle.std.proofs.Common.{◌≡◌, ℕ, zero, suc, ◌+◌, ◌<◌, ◌≤◌, ◌^◌, ℤ, pos, negsuc, ◌≤ℤ◌, arith}
use Rattle.std.proofs.Common.{List, [], ◌∷◌, length, get_or, refl, sym, ◌∙◌, ap, AllPairs, Bool}
use Rattle.std.proofs.Common.{true, false, Option, Some, None, ⊎_elim, subst, nat_cmp, Less}
use Rattle.std.proofs.Common.{Equal, Greater}
use Rattle.std.specs.Ordering.{ordering_index}
use Rattle.std.specs.List.Sorted.{IsNonDecreasingBy, IsPartitionPoint}
use Rattle.std.proofs.lemmas.Cmp.{ranked}
use Rattle.std.specs.Prelude.{nat_le, int_lt, ◌&&◌, unsigned_abs}
use Rattle.std.specs.Ordering.{int_eq}
use Rattle.std.proofs.lemmas.Int.{ints}
use Rattle.std.proofs.lemmas.Bool.{and_parts, cases_lt}
use Rattle.std.proofs.lemmas.Bool.Decides.{nat_tests, Decides-int_eq}
use Rattle.bl_num.specs.Exact.{at}
use Rattle.bl_problem.specs.Rows.{AreTerms, coefficient_of}
use Rattle.bl_problem.specs.Points.{lows_of, highs_of}
use Rattle.bl_problem.specs.declared.problem.Column.{Column}
use Rattle.bl_problem.specs.declared.problem.Term.{Term}
use native.Mathlib.Decide.{ℕ_discrete}
use Rattle.bl_bound.proofs.Terms.{tail_terms}
use Rattle.bl_cover.specs.Covers.{is_binary, is_coverable, listed_at, least_at, fits_at}
use Rattle.bl_cover.specs.Covers.{earlier_or, first_misfit}

-- ---- coefficients
here : (t : Term) (ts : List Term) (j : ℕ) → t.column ≡ j → coefficient_of (t ∷ ts) j
    ≡ t.coefficient
here t ts j e = grind (arith, nat_tests)

there : (t : Term) (ts : List Term) (j : ℕ) → ¬ (t.column ≡ j) → coefficient_of (t ∷ ts) j
    ≡ coefficient_of ts j
there t ts j n = grind (arith, nat_tests)

-- the term at a place gives its column's coefficient
pub coefficient-at : (ts : List Term) (k : ℕ) (d : Term)
    → AllPairs (λ s t. s.column < t.column) ts → k < length ts
    → coefficient_of ts (get_or ts k d).column ≡ (get_or ts k d).coefficient
coefficient-at [] k d h l = absurd (omega arith)
coefficient-at (t ∷ ts) zero d h l = here t ts t.column refl
coefficient-at (t ∷ ts) (suc k) d h l =
    let r = h 0 (suc k) d (omega arith) l in
    there t ts (get_or ts k d).column (λ e. omega (arith, e, r))
    ∙ coefficient-at ts k d (λ i j e p q. h (suc i) (suc j) e (omega arith) (omega arith))
    (omega arith)

-- no term has the column
pub coefficient-absent : (ts : List Term) (j : ℕ)
    → ((k : ℕ) (d : Term) → k < length ts → ¬ ((get_or ts k d).column ≡ j)) → coefficient_of ts j
    ≡ pos 0
coefficient-absent [] j h = refl
coefficient-absent (t ∷ ts) j h = there t ts j (h 0 t (omega arith))
    ∙ coefficient-absent ts j (λ k d l. h (suc k) d (omega arith))

pub coefficient-small : (n : ℕ) (ts : List Term) (j : ℕ) → AreTerms n ts
    → unsigned_abs (coefficient_of ts j) ≤ 10 ^ 15
coefficient-small n [] j h = omega arith
coefficient-small n (t ∷ ts) j h = elim (ℕ_discrete t.column j) [
  | yes e ↦ rw (here t ts j e) (h.each 0 t (omega arith)).coefficient
  | no d ↦ rw (there t ts j d) (coefficient-small n ts j (tail_terms n t ts h))
]

-- what a binary search by column answers
pub coefficient-found : (ts : List Term) (k j : ℕ) (d : Term)
    → AllPairs (λ s t. s.column < t.column) ts → k < length ts → nat_cmp (get_or ts k d).column j
    ≡ Equal → coefficient_of ts j ≡ (get_or ts k d).coefficient
coefficient-found ts k j d h l e =
    let z : (get_or ts k d).column ≡ j = ranked (get_or ts k d).column j Equal (sym e) in
    subst (λ (i : ℕ). coefficient_of ts i ≡ (get_or ts k d).coefficient) z
    (coefficient-at ts k d h l)

rank_rises : (x y j : ℕ) → x ≤ y → ordering_index (nat_cmp x j) ≤ ordering_index (nat_cmp y j)
rank_rises x y j l = grind (arith, nat_tests)

rising_le : (ts : List Term) (i k : ℕ) (d : Term) → AllPairs (λ s t. s.column < t.column) ts → i
    ≤ k → k < length ts → (get_or ts i d).column ≤ (get_or ts k d).column
rising_le ts i k d h l m = ⊎_elim (λ (q : i < k). let r = h i k d q m in omega (arith, r))
    (λ (q : k ≤ i). let z : i ≡ k = omega (arith, l, q) in rw z (omega arith)) (cases_lt i k)

pub coefficient-missed : (ts : List Term) (i j : ℕ) → AllPairs (λ s t. s.column < t.column) ts
    → (IsNonDecreasingBy (λ (t : Term). ordering_index (nat_cmp t.column j)) ts
    → IsPartitionPoint (λ (t : Term). nat_cmp t.column j ≡ Less)
    (λ (t : Term). nat_cmp t.column j ≡ Greater) ts i)
    → coefficient_of ts j ≡ pos 0
coefficient-missed ts i j h p =
    let q = p (λ a b d l m. rank_rises (get_or ts a d).column (get_or ts b d).column j
    (rising_le ts a b d h l m)) in
    coefficient-absent ts j
    (λ k d l e. ⊎_elim
    (λ m. let r : (get_or ts k d).column < j =
    ranked (get_or ts k d).column j Less (sym (q.0 k d (omega arith) m)) in omega (arith, r, e))
    (λ m. let r : j < (get_or ts k d).column =
    ranked (get_or ts k d).column j Greater (sym (q.1 k d m l)) in omega (arith, r, e))
    (cases_lt k i))

-- ---- listed columns
-- a place fits where its column is high enough, its coefficient is positive, and its bounds are
-- 0 and 1
pub fit : (columns : List Column) (terms : List Term) (listed : List ℕ) (k : ℕ)
    → least_at listed k ≤ listed_at listed k → pos 1 ≤ℤ coefficient_of terms (listed_at listed k)
    → is_binary columns (listed_at listed k) ≡ true
    → fits_at columns terms listed k ≡ true
fit columns terms listed k a b e = by (coefficient_of terms (listed_at listed k)) b
  where
    by : (z : ℤ) → pos 1 ≤ℤ z → (nat_le (least_at listed k) (listed_at listed k)
        && (int_lt (pos 0) z && is_binary columns (listed_at listed k))) ≡ true
    by (pos zero) l = absurd (omega (arith, ints, l))
    by (negsuc n) l = absurd (omega (arith, ints, l))
    by (pos (suc n)) l = grind (arith, nat_tests, a, e)

-- it does not where one of them fails
pub unfit-low : (columns : List Column) (terms : List Term) (listed : List ℕ) (k : ℕ)
    → listed_at listed k < least_at listed k → fits_at columns terms listed k ≡ false
unfit-low columns terms listed k a = grind (arith, nat_tests, a)

pub unfit-coefficient : (columns : List Column) (terms : List Term) (listed : List ℕ) (k : ℕ)
    → coefficient_of terms (listed_at listed k) ≤ℤ pos 0 → fits_at columns terms listed k ≡ false
unfit-coefficient columns terms listed k b =
    by (coefficient_of terms (listed_at listed k))
    (nat_le (least_at listed k) (listed_at listed k)) b
  where
    by : (z : ℤ) (t : Bool) → z ≤ℤ pos 0
        → (t && (int_lt (pos 0) z && is_binary columns (listed_at listed k))) ≡ false
    by z false l = refl
    by (pos zero) true l = refl
    by (negsuc n) true l = refl
    by (pos (suc n)) true l = absurd (omega (arith, ints, l))

pub unfit-bounds : (columns : List Column) (terms : List Term) (listed : List ℕ) (k : ℕ)
    → is_binary columns (listed_at listed k) ≡ false → fits_at columns terms listed k ≡ false
unfit-bounds columns terms listed k e =
    by (nat_le (least_at listed k) (listed_at listed k))
    (int_lt (pos 0) (coefficient_of terms (listed_at listed k)))
  where
    by : (s t : Bool) → (s && (t && is_binary columns (listed_at listed k))) ≡ false
    by false t = refl
    by true false = refl
    by true true = e

misfit-next : (columns : List Column) (terms : List Term) (listed : List ℕ) (n : ℕ)
    → first_misfit columns terms listed n ≡ None → fits_at columns terms listed n ≡ true
    → first_misfit columns terms listed (suc n) ≡ None
misfit-next columns terms listed n e f =
    ap (λ (o : Option ℕ). earlier_or o (fits_at columns terms listed n) n) e
    ∙ ap (λ (b : Bool). earlier_or None b n) f

pub misfit-more : (columns : List Column) (terms : List Term) (listed : List ℕ) (n : ℕ)
    → first_misfit columns terms listed n ≡ None → fits_at columns terms listed n ≡ true
    → first_misfit columns terms listed (n + 1) ≡ None
misfit-more columns terms listed n e f = let s : n + 1 ≡ suc n =
    omega arith in rw s (misfit-next columns terms listed n e f)

misfit-here : (columns : List Column) (terms : List Term) (listed : List ℕ) (n : ℕ)
    → first_misfit columns terms listed n ≡ None → fits_at columns terms listed n ≡ false
    → first_misfit columns terms listed (suc n) ≡ Some n
misfit-here columns terms listed n e f =
    ap (λ (o : Option ℕ). earlier_or o (fits_at columns terms listed n) n) e
    ∙ ap (λ (b : Bool). earlier_or None b n) f

-- a place that does not fit, while all before it do, is the first
pub misfit-found : (columns : List Column) (terms : List Term) (listed : List ℕ) (k n : ℕ)
    → first_misfit columns terms listed k ≡ None → fits_at columns terms listed k ≡ false → k < n
    → first_misfit columns terms listed n ≡ Some k
misfit-found columns terms listed k zero e f l = absurd (omega arith)
misfit-found columns terms listed k (suc n) e f l = ⊎_elim
    (λ m. ap (λ (o : Option ℕ). earlier_or o (fits_at columns terms listed n) n)
    (misfit-found columns terms listed k n e f m))
    (λ m. let z : k ≡ n = omega (arith, l, m) in rw (← z) (misfit-here columns terms listed k e f))
    (cases_lt k n)

-- a positive number
positive : (a : ℤ) → int_lt (pos 0) a ≡ true → pos 1 ≤ℤ a
positive (pos zero) e = absurd cc
positive (pos (suc n)) e = omega (arith, ints)
positive (negsuc n) e = absurd cc

-- what fits
pub record Fits (columns : List Column) (terms : List Term) (listed : List ℕ) (k : ℕ) : Type 0 where
  pub above : least_at listed k ≤ listed_at listed k
  pub positive : pos 1 ≤ℤ coefficient_of terms (listed_at listed k)
  pub low : at (lows_of columns) (listed_at listed k) ≡ pos 0
  pub high : at (highs_of columns) (listed_at listed k) ≡ pos 1

pub fitting : (columns : List Column) (terms : List Term) (listed : List ℕ) (k : ℕ)
    → fits_at columns terms listed k ≡ true → Fits columns terms listed k
fitting columns terms listed k e =
    let j = listed_at listed k in
    let p = and_parts (nat_le (least_at listed k) j) (is_coverable columns terms j) e in
    let q = and_parts (int_lt (pos 0) (coefficient_of terms j)) (is_binary columns j) p.1 in
    let r = and_parts (int_eq (at (lows_of columns) j) (pos 0))
    (int_eq (at (highs_of columns) j) (pos 1)) q.1 in
    record {
      above = grind (arith, nat_tests, p.0);
      positive = positive (coefficient_of terms j) q.0;
      low = (Decides-int_eq (at (lows_of columns) j) (pos 0)).0 r.0;
      high = (Decides-int_eq (at (highs_of columns) j) (pos 1)).0 r.1;
    }

pub fits-each : (columns : List Column) (terms : List Term) (listed : List ℕ) (n k : ℕ)
    → first_misfit columns terms listed n ≡ None → k < n → fits_at columns terms listed k ≡ true
fits-each columns terms listed zero k e l = absurd (omega arith)
fits-each columns terms listed (suc n) k e l =
    by (first_misfit columns terms listed n) (fits_at columns terms listed n) refl refl
    (λ h m. fits-each columns terms listed n k h m) e
  where
    by : (o : Option ℕ) (b : Bool) → first_misfit columns terms listed n ≡ o
        → fits_at columns terms listed n ≡ b
        → (first_misfit columns terms listed n ≡ None → k < n → fits_at columns terms listed k
        ≡ true)
        → earlier_or o b n ≡ None → fits_at columns terms listed k ≡ true
    by (Some z) b p q i h = absurd cc
    by None false p q i h = absurd cc
    by None true p q i h = ⊎_elim (λ m. i p m) (λ m. let z : k ≡ n =
        omega (arith, l, m) in rw z q) (cases_lt k n)
