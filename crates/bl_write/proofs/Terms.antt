-- Terms, made of the coefficients of the columns in order.
use Rattle.std.proofs.Common.{◌≡◌, ◌≢◌, ◌<◌, ◌≤◌, ◌+◌, ◌∙◌, ◌==◌, ℕ, ℤ, pos, Bool, true, false}
use Rattle.std.proofs.Common.{cond, List, [], ◌∷◌, ◌++◌, length, ap, ap₂, sym, refl, arith, suc}
use Rattle.std.proofs.Common.{All, not, ne_eqb}
use Rattle.std.specs.Prelude.{AllPairs}
use Rattle.std.specs.Ordering.{int_eq}
use Rattle.std.proofs.lemmas.Bool.{eq-eqb, eqb-true, false_from_ne_true}
use Rattle.std.proofs.lemmas.Bool.Decides.{Decides-int_eq}
use Rattle.std.proofs.lemmas.List.Elements.{All-cons, All-head, All-nil, All-tail, All-weaker}
use Rattle.bl_problem.specs.declared.problem.Column.{Column}
use Rattle.bl_problem.specs.declared.problem.Term.{Term}
use Rattle.bl_problem.specs.Rows.{IsTerm, coefficient_of}
use Rattle.bl_write.proofs.Names.{pairs_head, pairs_tail}

-- a term where the coefficient is not zero
abbrev pub term_or_none : ℕ → ℤ → List Term
term_or_none j z = cond (not (int_eq z (pos 0))) (record { column = j; coefficient = z } ∷ []) []

-- the terms by the coefficients of the columns from place j on
abbrev pub terms_from : List Term → ℕ → List Column → List Term
terms_from terms j [] = []
terms_from terms j (c ∷ columns) = term_or_none j (coefficient_of terms j)
    ++ terms_from terms (suc j) columns

pub int_ne : (z : ℤ) → z ≢ pos 0 → int_eq z (pos 0) ≡ false
int_ne z n = false_from_ne_true (int_eq z (pos 0)) (λ e. n ((Decides-int_eq z (pos 0)).0 e))

abbrev IsFrom : ℕ → Term → Type 0
IsFrom j t = j ≤ t.column

pub absent : (terms : List Term) (j : ℕ) → All (λ t. j < t.column) terms → coefficient_of terms j
    ≡ pos 0
absent [] j h = refl
absent (t ∷ terms) j h =
    let other : (t.column == j) ≡ false = let l =
    All-head (λ (u : Term). j < u.column) t terms h in ne_eqb t.column j
    (λ e. omega (arith, l, e)) in
    rw other (absent terms j (All-tail (λ (u : Term). j < u.column) t terms h))

pub behind : (t : Term) (terms : List Term) (i : ℕ) → t.column < i → coefficient_of (t ∷ terms) i
    ≡ coefficient_of terms i
behind t terms i l = rw (ne_eqb t.column i (λ e. omega (arith, l, e))) refl

same_terms : (a b : List Term) (j : ℕ) (columns : List Column)
    → ((i : ℕ) → j ≤ i → coefficient_of a i ≡ coefficient_of b i) → terms_from a j columns
    ≡ terms_from b j columns
same_terms a b j [] h = refl
same_terms a b j (c ∷ columns) h = ap₂ (λ z rest. term_or_none j z ++ rest) (h j (omega arith))
    (same_terms a b (suc j) columns (λ i l. h i (omega (arith, l))))

-- rising terms that are not zero are made of the coefficients again
pub terms_back : (terms : List Term) (j n : ℕ) (columns : List Column) → j + length columns ≡ n
    → All (IsTerm n) terms → All (IsFrom j) terms → AllPairs (λ s t. s.column < t.column) terms
    → terms_from terms j columns ≡ terms
terms_back [] j n [] long each from rising = refl
terms_back (t ∷ terms) j n [] long each from rising =
    absurd (let a = All-head (IsFrom j) t terms from in let b =
    (All-head (IsTerm n) t terms each).column in omega (arith, a, b, long))
terms_back [] j n (c ∷ columns) long each from rising =
    terms_back [] (suc j) n columns (omega (arith, long)) each (All-nil (IsFrom (suc j))) rising
terms_back (t ∷ terms) j n (c ∷ columns) long each from rising = by (t.column == j) refl
    (λ later. terms_back terms (suc j) n columns (omega (arith, long))
    (All-tail (IsTerm n) t terms each) later
    (pairs_tail (λ (s u : Term). s.column < u.column) t terms rising))
    (λ later. terms_back (t ∷ terms) (suc j) n columns (omega (arith, long)) each later rising)
  where
    after : All (IsFrom (suc t.column)) terms
    after = pairs_head (λ (s u : Term). s.column < u.column) t terms rising

    by : (b : Bool) → (t.column == j) ≡ b → (All (IsFrom (suc j)) terms
        → terms_from terms (suc j) columns ≡ terms)
        → (All (IsFrom (suc j)) (t ∷ terms) → terms_from (t ∷ terms) (suc j) columns ≡ t ∷ terms)
        → terms_from (t ∷ terms) j (c ∷ columns) ≡ t ∷ terms
    by true e tail whole =
        let here : t.column ≡ j = eqb-true t.column j e in
        let value : coefficient_of (t ∷ terms) j ≡ t.coefficient = rw e refl in
        let some : int_eq t.coefficient (pos 0) ≡ false =
        int_ne t.coefficient (All-head (IsTerm n) t terms each).nonzero in
        let first : term_or_none j (coefficient_of (t ∷ terms) j) ≡ t ∷ [] =
        ap (term_or_none j) value ∙ rw some
        (ap (λ k. record { column = k; coefficient = t.coefficient } ∷ []) (sym here)) in
        let rest : terms_from (t ∷ terms) (suc j) columns ≡ terms =
        same_terms (t ∷ terms) terms (suc j) columns
        (λ i l. behind t terms i (omega (arith, here, l)))
        ∙ tail (All-weaker (IsFrom (suc t.column)) (IsFrom (suc j))
        (λ u l. omega (arith, l, here)) terms after) in
        ap₂ (λ a b. a ++ b) first rest
    by false e tail whole =
        let past : j < t.column = let l = All-head (IsFrom j) t terms from in let m : t.column ≢
        j = (λ q. (let g = eq-eqb t.column j q in absurd cc)) in omega (arith, l, m) in
        let later : All (IsFrom (suc j)) (t ∷ terms) = All-cons (IsFrom (suc j)) t terms
        (omega (arith, past)) (All-weaker (IsFrom (suc t.column)) (IsFrom (suc j))
        (λ u l. omega (arith, l, past)) terms after) in
        let none : coefficient_of (t ∷ terms) j ≡ pos 0 = absent (t ∷ terms) j later in
        ap (λ z. term_or_none j z ++ terms_from (t ∷ terms) (suc j) columns) none
        ∙ whole later
