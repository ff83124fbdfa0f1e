-- Steps of the searches.
use Rattle.std.proofs.Common.{◌≡◌, ℕ, zero, suc, ◌<◌, List, [], ◌∷◌, length, get_or, refl, ap}
use Rattle.std.proofs.Common.{sym, ◌∙◌, arith, Bool, true, false, cond, Some, None, Option, inl}
use Rattle.std.proofs.Common.{inr}
use Rattle.std.specs.Prelude.{slice_get}
use Rattle.std.proofs.lemmas.Bool.{cases_eq, cond-true, cond-false}
use Rattle.bl_journal.specs.Replies.{first_below, preferred}
use Rattle.bl_journal.proofs.Living.{first_below_holds}

pub slice_get-is : {X : Type 0} (xs : List X) (i : ℕ) (x : X) → i < length xs → x ≡ get_or xs i x
    → slice_get xs i ≡ Some x
slice_get-is [] i x h e = absurd (omega arith)
slice_get-is (y ∷ xs) zero x h e = ap Some (sym e)
slice_get-is (y ∷ xs) (suc i) x h e = slice_get-is xs i x (omega arith) e

-- no number is fit
pub first_below_no : (comes : ℕ → ℕ → Bool) (fit : ℕ → Bool) (n : ℕ)
    → ((i : ℕ) → i < n → fit i ≡ false) → first_below comes fit n ≡ None
first_below_no comes fit zero h = refl
first_below_no comes fit (suc n) h =
    cond-false (fit n) (preferred comes (first_below comes fit n) n) (first_below comes fit n)
    (h n (omega arith)) ∙ first_below_no comes fit n (λ i b. h i (omega (arith, b)))

-- a fit number that comes before each other fit one
pub first_below_is : (comes : ℕ → ℕ → Bool) (fit : ℕ → Bool) (n m : ℕ) → m < n → fit m ≡ true
    → ((i : ℕ) → i < n → fit i ≡ true → comes i m ≡ false)
    → ((i : ℕ) → i < n → fit i ≡ true → (i ≡ m → ⊥) → comes m i ≡ true)
    → first_below comes fit n ≡ Some m
first_below_is comes fit zero m b f later first = absurd (omega (arith, b))
first_below_is comes fit (suc n) m b f later first = elim (cases_eq m n) [
  | inl same ↦
      let here : fit n ≡ true = ap fit (sym same) ∙ f in
      cond-true (fit n) (preferred comes (first_below comes fit n) n) (first_below comes fit n)
      here ∙ (over same (first_below comes fit n) refl ∙ ap Some (sym same))
  | inr other ↦
      let ih : first_below comes fit n ≡ Some m = first_below_is comes fit n m
      (omega (arith, b, other)) f (λ i h. later i (omega (arith, h)))
      (λ i h. first i (omega (arith, h))) in
      by_test ih (fit n) refl
]
  where
    over : m ≡ n → (o : Option ℕ) → first_below comes fit n ≡ o → preferred comes o n ≡ Some n
    over same None e = refl
    over same (Some i) e =
        let h = first_below_holds comes fit n i e in
        let within : i < n = h.0 in
        cond-true (comes n i) (Some n) (Some i)
        (ap (λ k. comes k i) (sym same)
        ∙ first i (omega (arith, within)) h.1 (λ q. omega (arith, q, same, within)))

    by_test : first_below comes fit n ≡ Some m → (t : Bool) → fit n ≡ t
        → cond t (preferred comes (first_below comes fit n) n) (first_below comes fit n) ≡ Some m
    by_test ih true e = ap (λ o. preferred comes o n) ih
        ∙ cond-false (comes n m) (Some n) (Some m) (later n (omega arith) e)
    by_test ih false e = ih
