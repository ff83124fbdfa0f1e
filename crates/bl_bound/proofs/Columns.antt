-- The columns' sums, made line by line: each is the sum that is made for its column alone.
use Rattle.std.proofs.Common.{◌≡◌, ◌^◌, subst, ℕ, zero, suc, ◌<◌, ℤ, pos, ◌+ℤ◌, ◌*ℤ◌, neg_ℤ}
use Rattle.std.proofs.Common.{arith, List, [], ◌∷◌, length, refl, sym, ◌∙◌, ap, cond, true, false}
use Rattle.std.proofs.Common.{Bool, Option, Some, None, nat_lt}
use Rattle.std.proofs.lemmas.Int.{ints}
use Rattle.std.proofs.lemmas.Bool.Decides.{nat_tests}
use Rattle.std.proofs.lemmas.List.{get_or-set_same, get_or-set_other, length-set}
use native.Mathlib.Decide.{ℕ_discrete}
use Rattle.bl_num.specs.Checked.{i128_of, checked_add, checked_sum}
use Rattle.bl_problem.specs.Rows.{AreTerms, coefficient_of}
use Rattle.bl_problem.specs.declared.problem.Term.{Term}
use Rattle.bl_bound.specs.Bounds.{sum_at}
use Rattle.bl_bound.specs.Steps.{taken_term, taken_terms, IsSettled}
use Rattle.bl_bound.proofs.Terms.{absent, tail_terms}
use lib.Signed.{mag}

-- ---- what is settled
pub i128_of-settled : (z : ℤ) → IsSettled (i128_of z)
i128_of-settled z = by (nat_lt (mag z) (2 ^ 127)) refl
  where
    by : (t : Bool) → nat_lt (mag z) (2 ^ 127) ≡ t → IsSettled (cond t (Some z) None)
    by true e = record {
      same = let s : z +ℤ pos 0 ≡ z = omega (arith, ints) in ap i128_of s
          ∙ ap (λ (b : Bool). cond b (Some z) None) e;
    }
    by false e = record { same = refl }

pub checked_add-settled : (a b : Option ℤ) → IsSettled (checked_add a b)
checked_add-settled None b = record { same = refl }
checked_add-settled (Some a) None = record { same = refl }
checked_add-settled (Some a) (Some b) = i128_of-settled (a +ℤ b)

pub checked_sum-settled : (start : Option ℤ) (f : ℕ → Option ℤ) (n : ℕ) → IsSettled start
    → IsSettled (checked_sum start n f)
unfolding checked_sum
checked_sum-settled start f zero h = h
checked_sum-settled start f (suc n) h = checked_add-settled (checked_sum start n f) (f n)

pub some-settled : (o : Option ℤ) (z : ℤ) → o ≡ i128_of z → IsSettled o
some-settled o z e = rw e (i128_of-settled z)

-- ---- the terms of one line
pub length-taken : (y : ℤ) (ts : List Term) (sums : List (Option ℤ))
    → length (taken_terms y ts sums) ≡ length sums
length-taken y [] sums = refl
length-taken y (t ∷ ts) sums = length-taken y ts (taken_term y sums t)
    ∙ length-set sums t.column
    (checked_add (sum_at sums t.column) (Some (neg_ℤ (y *ℤ t.coefficient))))

nothing_taken : (y : ℤ) (o : Option ℤ) → IsSettled o → checked_add o (Some (neg_ℤ (y *ℤ pos 0))) ≡ o
nothing_taken y o h = let z : neg_ℤ (y *ℤ pos 0) ≡ pos 0 =
    omega (arith, ints) in ap (λ (v : ℤ). checked_add o (Some v)) z ∙ h.same

coefficient_here : (t : Term) (ts : List Term) (j : ℕ) → t.column ≡ j → coefficient_of (t ∷ ts) j
    ≡ t.coefficient
coefficient_here t ts j e = grind (arith, nat_tests)

coefficient_there : (t : Term) (ts : List Term) (j : ℕ) → ¬ (t.column ≡ j)
    → coefficient_of (t ∷ ts) j ≡ coefficient_of ts j
coefficient_there t ts j n = grind (arith, nat_tests)

-- the sum of the term's own column, and those of the others
own_sum : (y : ℤ) (t : Term) (sums : List (Option ℤ)) → t.column < length sums →
    sum_at (taken_term y sums t) t.column
    ≡ checked_add (sum_at sums t.column) (Some (neg_ℤ (y *ℤ t.coefficient)))
own_sum y t sums l = get_or-set_same sums t.column
    (checked_add (sum_at sums t.column) (Some (neg_ℤ (y *ℤ t.coefficient)))) None l

other_sum : (y : ℤ) (t : Term) (sums : List (Option ℤ)) (j : ℕ) → ¬ (t.column ≡ j)
    → sum_at (taken_term y sums t) j ≡ sum_at sums j
other_sum y t sums j n = get_or-set_other sums t.column j
    (checked_add (sum_at sums t.column) (Some (neg_ℤ (y *ℤ t.coefficient)))) None (λ e. n (sym e))

by_column : {P : Type 0} (t : Term) (j : ℕ) → (t.column ≡ j → P) → (¬ (t.column ≡ j) → P) → P
by_column t j f g = elim (ℕ_discrete t.column j) [ yes e ↦ f e | no d ↦ g d ]

taken_term-settled : (y : ℤ) (t : Term) (sums : List (Option ℤ)) (j : ℕ) → t.column < length sums
    → IsSettled (sum_at sums j) → IsSettled (sum_at (taken_term y sums t) j)
taken_term-settled y t sums j l s = by_column t j
    (λ e. subst (λ (k : ℕ). IsSettled (sum_at (taken_term y sums t) k)) e
    (rw (own_sum y t sums l) (checked_add-settled (sum_at sums t.column)
    (Some (neg_ℤ (y *ℤ t.coefficient))))))
    (λ d. rw (other_sum y t sums j d) s)

Taken : ℤ → List Term → List (Option ℤ) → ℕ → Option ℤ → Type 0
Taken y ts sums j rest = rest
    ≡ checked_add (sum_at sums j) (Some (neg_ℤ (y *ℤ coefficient_of ts j)))

own_step : (y : ℤ) (t : Term) (ts : List Term) (sums : List (Option ℤ)) (rest : Option ℤ)
    → t.column < length sums → coefficient_of ts t.column ≡ pos 0 →
    Taken y ts (taken_term y sums t) t.column rest → Taken y (t ∷ ts) sums t.column rest
unfolding Taken
own_step y t ts sums rest l z h =
    let own = own_sum y t sums l in
    let settled : IsSettled (sum_at (taken_term y sums t) t.column) =
    rw own (checked_add-settled (sum_at sums t.column) (Some (neg_ℤ (y *ℤ t.coefficient)))) in
    h ∙ ap (λ (v : ℤ). checked_add (sum_at (taken_term y sums t) t.column)
    (Some (neg_ℤ (y *ℤ v)))) z
    ∙ nothing_taken y (sum_at (taken_term y sums t) t.column) settled
    ∙ own
    ∙ ap (λ (v : ℤ). checked_add (sum_at sums t.column) (Some (neg_ℤ (y *ℤ v))))
    (sym (coefficient_here t ts t.column refl))

other_step : (y : ℤ) (t : Term) (ts : List Term) (sums : List (Option ℤ)) (j : ℕ)
    (rest : Option ℤ) → ¬ (t.column ≡ j) →
    Taken y ts (taken_term y sums t) j rest → Taken y (t ∷ ts) sums j rest
unfolding Taken
other_step y t ts sums j rest n h =
    h ∙ ap (λ (o : Option ℤ). checked_add o (Some (neg_ℤ (y *ℤ coefficient_of ts j))))
    (other_sum y t sums j n)
    ∙ ap (λ (v : ℤ). checked_add (sum_at sums j) (Some (neg_ℤ (y *ℤ v))))
    (sym (coefficient_there t ts j n))

no_terms : (y : ℤ) (sums : List (Option ℤ)) (j : ℕ) → IsSettled (sum_at sums j)
    → Taken y [] sums j (sum_at sums j)
unfolding Taken
no_terms y sums j s = sym (nothing_taken y (sum_at sums j) s)

taken_all : (y : ℤ) (ts : List Term) (n : ℕ) (sums : List (Option ℤ)) (j : ℕ) → AreTerms n ts
    → length sums ≡ n → IsSettled (sum_at sums j) →
    Taken y ts sums j (sum_at (taken_terms y ts sums) j)
taken_all y [] n sums j h w s = no_terms y sums j s
taken_all y (t ∷ ts) n sums j h w s =
    let column = (h.each 0 t (omega arith)).column in
    let l : t.column < length sums = omega (arith, column, w) in
    let next = taken_term y sums t in
    let z = absent ts t.column (λ k d m. h.rising 0 (suc k) d (omega arith) (omega arith)) in
    let i = taken_all y ts n next j (tail_terms n t ts h)
    (length-set sums t.column (checked_add (sum_at sums t.column)
    (Some (neg_ℤ (y *ℤ t.coefficient)))) ∙ w) (taken_term-settled y t sums j l s) in
    by_column t j
    (λ e. subst (λ (k : ℕ). Taken y ts next k (sum_at (taken_terms y ts next) k)
    → Taken y (t ∷ ts) sums k (sum_at (taken_terms y ts next) k)) e
    (λ g. own_step y t ts sums (sum_at (taken_terms y ts next) t.column) l z g) i)
    (λ d. other_step y t ts sums j (sum_at (taken_terms y ts next) j) d i)

pub taken_terms-at : (y : ℤ) (ts : List Term) (n : ℕ) (sums : List (Option ℤ)) (j : ℕ)
    → AreTerms n ts → length sums ≡ n → IsSettled (sum_at sums j) →
    sum_at (taken_terms y ts sums) j
    ≡ checked_add (sum_at sums j) (Some (neg_ℤ (y *ℤ coefficient_of ts j)))
unfolding Taken
taken_terms-at y ts n sums j h w s = taken_all y ts n sums j h w s

-- a line whose multiplier is 0 takes nothing
pub taken-nothing : (a : ℤ) (o : Option ℤ) → IsSettled o
    → checked_add o (Some (neg_ℤ (pos 0 *ℤ a))) ≡ o
taken-nothing a o h = let z : neg_ℤ (pos 0 *ℤ a) ≡ pos 0 =
    omega (arith, ints) in ap (λ (v : ℤ). checked_add o (Some v)) z ∙ h.same

-- sums whose terms are equal place by place
pub checked_sum-same : (start : Option ℤ) (n : ℕ) (f g : ℕ → Option ℤ)
    → ((k : ℕ) → k < n → f k ≡ g k) → checked_sum start n f ≡ checked_sum start n g
unfolding checked_sum
checked_sum-same start zero f g h = refl
checked_sum-same start (suc n) f g h =
    let i = checked_sum-same start n f g (λ k l. h k (omega arith)) in
    let e = h n (omega arith) in
    ap (λ (o : Option ℤ). checked_add o (f n)) i
    ∙ ap (λ (o : Option ℤ). checked_add (checked_sum start n g) o) e
