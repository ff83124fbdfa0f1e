-- Sums over the first places, and elements of lists of numbers.
use Rattle.std.proofs.Common.{◌≡◌, ℕ, zero, suc, ◌+◌, ◌*◌, ◌≤◌, ◌<◌, ℤ, pos, ◌+ℤ◌, ◌*ℤ◌, ◌≤ℤ◌}
use Rattle.std.proofs.Common.{refl, ◌∙◌, ap, arith, unsigned_abs, List, [], ◌∷◌, length, map}
use Rattle.std.proofs.Common.{get_or, add-one}
use Rattle.std.proofs.lemmas.Int.{ints, unsigned_abs-mul}
use Rattle.std.proofs.Math.Nat.{mul-le-mul}
use native.Mathlib.Decide.{ℕ_discrete}
use Rattle.std.proofs.lemmas.List.{get_or-map}
use Rattle.bl_num.specs.Exact.{sum_below, at}
use Rattle.bl_num.proofs.Ring.{*ℤ-+ℤ}

pub sum_below-more : (n : ℕ) (f : ℕ → ℤ) → sum_below (n + 1) f ≡ sum_below n f +ℤ f n
sum_below-more n f = rw add-one refl

-- sums of terms that are equal place by place
pub sum_below-same : (n : ℕ) (f g : ℕ → ℤ) → ((k : ℕ) → k < n → f k ≡ g k) → sum_below n f
    ≡ sum_below n g
sum_below-same zero f g h = refl
sum_below-same (suc n) f g h =
    let i = sum_below-same n f g (λ k l. h k (omega arith)) in
    let e = h n (omega arith) in
    cc

pub sum_below-le : (n : ℕ) (f g : ℕ → ℤ) → ((k : ℕ) → k < n → f k ≤ℤ g k)
    → sum_below n f ≤ℤ sum_below n g
sum_below-le zero f g h = omega (arith, ints)
sum_below-le (suc n) f g h =
    let i = sum_below-le n f g (λ k l. h k (omega arith)) in
    let e = h n (omega arith) in
    omega (arith, ints)

pub sum_below-add : (n : ℕ) (f g : ℕ → ℤ) → sum_below n (λ k. f k +ℤ g k)
    ≡ sum_below n f +ℤ sum_below n g
sum_below-add zero f g = refl
sum_below-add (suc n) f g = let i = sum_below-add n f g in omega (arith, ints)

pub sum_below-times : (n : ℕ) (a : ℤ) (f : ℕ → ℤ) → sum_below n (λ k. a *ℤ f k) ≡ a *ℤ sum_below n f
sum_below-times zero a f = omega (arith, ints)
sum_below-times (suc n) a f = let i = sum_below-times n a f in let d =
    *ℤ-+ℤ a (sum_below n f) (f n) in omega (arith, ints)

pub sum_below-zero : (n : ℕ) (f : ℕ → ℤ) → ((k : ℕ) → k < n → f k ≡ pos 0) → sum_below n f ≡ pos 0
sum_below-zero zero f h = refl
sum_below-zero (suc n) f h =
    let i = sum_below-zero n f (λ k l. h k (omega arith)) in
    let e = h n (omega arith) in
    omega (arith, ints)

-- a sum with one term that is not 0
pub sum_below-only : (n j : ℕ) (f : ℕ → ℤ) → j < n → ((k : ℕ) → k < n → ¬ (k ≡ j) → f k ≡ pos 0)
    → sum_below n f ≡ f j
sum_below-only zero j f l h = absurd (omega arith)
sum_below-only (suc n) j f l h = by_eq n j f (λ e.
    let z = sum_below-zero n f (λ k m. h k (omega arith) (λ q. omega arith)) in
    let g = ap f e in
    omega (arith, ints))
    (λ d.
    let i = sum_below-only n j f (by_lt n j l d) (λ k m q. h k (omega arith) q) in
    let g = h n (omega arith) d in
    omega (arith, ints))
  where
    by_lt : (n j : ℕ) → j < suc n → ¬ (n ≡ j) → j < n
    by_lt n j l d = omega arith

    by_eq : {P : Type 0} (n j : ℕ) (f : ℕ → ℤ) → (n ≡ j → P) → (¬ (n ≡ j) → P) → P
    by_eq n j f y g = elim (ℕ_discrete n j) [ yes e ↦ y e | no d ↦ g d ]

-- the number at a place of a list that is read off another
pub at-map : {A : Type 0} (f : A → ℤ) (xs : List A) (j : ℕ) (d : A) → j < length xs
    → at (map f xs) j ≡ f (get_or xs j d)
at-map f xs j d h = get_or-map f xs j d (pos 0) h

-- a product lies within the product of its factors' ends
pub product_within : (a b : ℤ) (m n : ℕ) → unsigned_abs a ≤ m → unsigned_abs b ≤ n
    → unsigned_abs (a *ℤ b) ≤ m * n
product_within a b m n h k = let e = unsigned_abs-mul a b in let p = mul-le-mul h k in omega arith

-- a number that is there, at any default
pub at-any : (xs : List ℤ) (i : ℕ) (d : ℤ) → i < length xs → get_or xs i d ≡ at xs i
at-any [] i d h = absurd (omega arith)
at-any (x ∷ xs) zero d h = refl
at-any (x ∷ xs) (suc i) d h = at-any xs i d (omega arith)

-- a sum of sums, the other way round
pub sum_below-swap : (n m : ℕ) (f : ℕ → ℕ → ℤ) → sum_below n (λ j. sum_below m (λ i. f i j))
    ≡ sum_below m (λ i. sum_below n (λ j. f i j))
sum_below-swap n zero f = sum_below-zero n (λ j. pos 0) (λ k l. refl)
sum_below-swap n (suc m) f =
    let a = sum_below-add n (λ j. sum_below m (λ i. f i j)) (λ j. f m j) in
    let i = sum_below-swap n m f in
    a ∙ ap (λ (v : ℤ). v +ℤ sum_below n (λ j. f m j)) i
