-- The Chvátal-Gomory rounding: a point that meets the lines meets the rounded sum.
use Rattle.std.proofs.Common.{◌≡◌, ℕ, ◌<◌, ℤ, pos, ◌+ℤ◌, ◌-ℤ◌, ◌*ℤ◌, ◌≤ℤ◌, arith, sym, ◌∙◌, ap}
use Rattle.std.proofs.lemmas.Int.{ints}
use Rattle.std.proofs.Math.IntN.{*ℤ_comm}
use Rattle.bl_num.specs.Exact.{sum_below, floor_of}
use Rattle.bl_num.proofs.Ring.{*ℤ-le, *ℤ-+ℤ, *ℤ_assoc}
use Rattle.bl_num.proofs.SumLemmas.{sum_below-same, sum_below-add, sum_below-times, sum_below-le}
use Rattle.bl_num.proofs.SumLemmas.{sum_below-swap}
use Rattle.bl_num.proofs.Quotients.{floor-times, le_floor}

-- ---- the exchange of the sums
pub exchange : (n m : ℕ) (w x s : ℕ → ℤ) (a : ℕ → ℕ → ℤ)
    → ((i : ℕ) → i < m → sum_below n (λ j. a i j *ℤ x j) ≡ s i) →
    sum_below n (λ j. sum_below m (λ i. w i *ℤ a i j) *ℤ x j) ≡ sum_below m (λ i. w i *ℤ s i)
exchange n m w x s a h =
    let t = sum_below-same n (λ j. sum_below m (λ i. w i *ℤ a i j) *ℤ x j)
    (λ j. sum_below m (λ i. w i *ℤ (a i j *ℤ x j)))
    (λ k l. *ℤ_comm (sum_below m (λ i. w i *ℤ a i k)) (x k)
    ∙ sym (sum_below-times m (x k) (λ i. w i *ℤ a i k))
    ∙ sum_below-same m (λ i. x k *ℤ (w i *ℤ a i k)) (λ i. w i *ℤ (a i k *ℤ x k))
    (λ i q. *ℤ_comm (x k) (w i *ℤ a i k) ∙ *ℤ_assoc (w i) (a i k) (x k))) in
    let p = sum_below-swap n m (λ i j. w i *ℤ (a i j *ℤ x j)) in
    let r = sum_below-same m (λ i. sum_below n (λ j. w i *ℤ (a i j *ℤ x j))) (λ i. w i *ℤ s i)
    (λ k l. sum_below-times n (w k) (λ j. a k j *ℤ x j) ∙ ap (λ (v : ℤ). w k *ℤ v) (h k l)) in
    t ∙ p ∙ r

-- ---- over the lows
-- a sum over the entries is that over their distances from the lows and that over the lows
over_lows : (n : ℕ) (a x lo : ℕ → ℤ) → sum_below n (λ j. a j *ℤ x j)
    ≡ sum_below n (λ j. a j *ℤ (x j -ℤ lo j)) +ℤ sum_below n (λ j. a j *ℤ lo j)
over_lows n a x lo =
    sum_below-same n (λ j. a j *ℤ x j) (λ j. a j *ℤ (x j -ℤ lo j) +ℤ a j *ℤ lo j)
    (λ k l. let e = *ℤ-+ℤ (a k) (x k -ℤ lo k) (lo k) in let i : (x k -ℤ lo k) +ℤ lo k ≡ x k =
    omega (arith, ints) in ap (λ (v : ℤ). a k *ℤ v) (sym i) ∙ e)
    ∙ sum_below-add n (λ j. a j *ℤ (x j -ℤ lo j)) (λ j. a j *ℤ lo j)

pub one_rounded : (a q z : ℤ) → pos 1 ≤ℤ q → pos 0 ≤ℤ z → (q *ℤ (floor_of a q *ℤ z)) ≤ℤ (a *ℤ z)
one_rounded a q z h p =
    let t = floor-times a q h in
    let m = *ℤ-le z (floor_of a q *ℤ q) a p t in
    let e = *ℤ_comm z (floor_of a q *ℤ q) in
    let f = *ℤ_comm z a in
    let g = *ℤ_comm (floor_of a q) q in
    let b = ap (λ (v : ℤ). v *ℤ z) g in
    let k = *ℤ_assoc q (floor_of a q) z in
    omega (arith, ints, m, e, f, b, k)

pub rounded-le : (n : ℕ) (q ends : ℤ) (a x lo : ℕ → ℤ) → pos 1 ≤ℤ q
    → ((j : ℕ) → j < n → lo j ≤ℤ x j) →
    sum_below n (λ j. a j *ℤ x j) ≤ℤ ends →
    sum_below n (λ j. floor_of (a j) q *ℤ x j) ≤ℤ
    (floor_of (ends -ℤ sum_below n (λ j. a j *ℤ lo j)) q +ℤ sum_below n
    (λ j. floor_of (a j) q *ℤ lo j))
rounded-le n q ends a x lo h l u =
    let c = λ (j : ℕ). floor_of (a j) q in
    let z = λ (j : ℕ). x j -ℤ lo j in
    let p = over_lows n a x lo in
    let r = over_lows n c x lo in
    let t = sum_below-times n q (λ j. c j *ℤ z j) in
    let m = sum_below-le n (λ j. q *ℤ (c j *ℤ z j)) (λ j. a j *ℤ z j)
    (λ k d. one_rounded (a k) q (z k) h (let g = l k d in omega (arith, ints, g))) in
    let e = *ℤ_comm q (sum_below n (λ j. c j *ℤ z j)) in
    let f = le_floor (sum_below n (λ j. c j *ℤ z j)) (ends -ℤ sum_below n (λ j. a j *ℤ lo j)) q h
    (omega (arith, ints, p, t, m, e, u)) in
    omega (arith, ints, r, f)
