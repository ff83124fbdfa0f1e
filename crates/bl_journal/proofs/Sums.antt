-- Sums over the numbers below one.
use Rattle.std.proofs.Common.{◌≡◌, ℕ, zero, suc, ◌+◌, ◌<◌, ◌≤◌, refl, ap, ◌∙◌, arith, inl, inr}
use Rattle.std.proofs.Common.{Bool, cond}
use Rattle.std.specs.Prelude.{sum_by}
use Rattle.std.proofs.lemmas.Bool.{cases_lt}
use Rattle.std.proofs.lemmas.List.Sums.{sum_by_push}
use Rattle.bl_journal.specs.Replies.{ids_below}

abbrev pub one_if : Bool → ℕ
one_if b = cond b 1 0

abbrev pub total : (ℕ → ℕ) → ℕ → ℕ
total f zero = 0
total f (suc n) = total f n + f n

pub sum_ids : (f : ℕ → ℕ) (n : ℕ) → sum_by f (ids_below n) ≡ total f n
sum_ids f zero = refl
sum_ids f (suc n) = sum_by_push f (ids_below n) n ∙ ap (λ a. a + f n) (sum_ids f n)

pub total-le : (f g : ℕ → ℕ) (n : ℕ) → ((k : ℕ) → k < n → g k ≤ f k) → total g n ≤ total f n
total-le f g zero h = omega arith
total-le f g (suc n) h =
    let ih : total g n ≤ total f n = total-le f g n (λ k b. h k (omega (arith, b))) in
    let here : g n ≤ f n = h n (omega arith) in
    omega (arith, ih, here)

pub total-at : (f : ℕ → ℕ) (n i : ℕ) → i < n → f i ≤ total f n
total-at f zero i b = absurd (omega (arith, b))
total-at f (suc n) i b =
    elim (cases_lt i n) [
      | inl c ↦ let ih : f i ≤ total f n = total-at f n i c in omega (arith, ih)
      | inr c ↦ let e : i ≡ n = omega (arith, b, c) in let same : f i ≡ f n =
          ap f e in omega (arith, same)
    ]

-- where all but one grow no more, the sum changes by at most what that one does
pub total-change : (f g : ℕ → ℕ) (n i : ℕ) → i < n → ((k : ℕ) → k < n → (k ≡ i → ⊥) → g k ≤ f k)
    → total g n + f i ≤ total f n + g i
total-change f g zero i b h = absurd (omega (arith, b))
total-change f g (suc n) i b h =
    elim (cases_lt i n) [
      | inl c ↦
          let ih : total g n + f i ≤ total f n + g i =
          total-change f g n i c (λ k d ne. h k (omega (arith, d)) ne) in
          let here : g n ≤ f n = h n (omega arith) (λ e. omega (arith, e, c)) in
          omega (arith, ih, here)
      | inr c ↦
          let e : i ≡ n = omega (arith, b, c) in
          let same : f i ≡ f n = ap f e in
          let same' : g i ≡ g n = ap g e in
          let rest : total g n ≤ total f n =
          total-le f g n (λ k d. h k (omega (arith, d)) (λ j. omega (arith, j, e, d))) in
          omega (arith, rest, same, same')
    ]

pub total-two : (f : ℕ → ℕ) (n m : ℕ) → m ≡ n + 2 → total f m ≡ (total f n + f n) + f (n + 1)
total-two f n m e =
    let a : m ≡ suc (suc n) = omega (arith, e) in
    let b : suc n ≡ n + 1 = omega arith in
    ap (total f) a ∙ ap (λ k. (total f n + f n) + f k) b
