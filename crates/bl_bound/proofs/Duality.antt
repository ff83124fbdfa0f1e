-- Weak duality: the bound's sum is at most d times the value of each point of the box that meets
-- the lines.
use Rattle.std.proofs.Common.{◌≡◌, ℕ, zero, suc, ◌<◌, ℤ, pos, negsuc, ◌+ℤ◌, ◌*ℤ◌, neg_ℤ, ◌≤ℤ◌}
use Rattle.std.proofs.Common.{arith, List, [], length, All, Option, Some, None, refl, sym, ◌∙◌}
use Rattle.std.proofs.Common.{ap}
use Rattle.std.proofs.lemmas.Int.{ints}
use Rattle.std.proofs.Math.IntN.{*ℤ_comm, zero-*ℤ}
use Rattle.bl_num.specs.Exact.{sum_below, at}
use Rattle.bl_num.specs.Checked.{i128_of, checked_mul, checked_sum}
use Rattle.bl_num.proofs.Ring.{*ℤ-le, *ℤ-le_turned, *ℤ-+ℤ, +ℤ-*ℤ, *ℤ_assoc, neg-*ℤ}
use Rattle.bl_num.proofs.SumLemmas.{sum_below-same, sum_below-add, sum_below-times, sum_below-le}
use Rattle.bl_num.proofs.SumLemmas.{sum_below-swap, sum_below-zero}
use Rattle.bl_num.proofs.CheckedLemmas.{number, checked_sum-some, i128_of-some}
use Rattle.bl_problem.specs.Sums.{sum_of_terms}
use Rattle.bl_problem.specs.Points.{InBox}
use Rattle.bl_problem.specs.Rows.{AreTerms, coefficient_of, MeetsLow, MeetsHigh}
use Rattle.bl_problem.proofs.Boxes.{box-entry}
use Rattle.bl_bound.specs.Lines.{Line, line_at, MeetsLine}
use Rattle.bl_bound.specs.Bounds.{reduced_cost, column_part, line_part, bound_sum}
use Rattle.bl_bound.proofs.Terms.{dense}

-- ---- one part
pub record ColumnFits (r : Option ℤ) (x t : ℤ) : Type 0 where
  pub exists : r ≡ Some (number r)
  pub below : t ≤ℤ (number r *ℤ x)

pub column_part-le : (r : Option ℤ) (l h x t : ℤ) → column_part r l h ≡ Some t → l ≤ℤ x → x ≤ℤ h
    → ColumnFits r x t
column_part-le None l h x t e p q = absurd cc
column_part-le (Some (pos n)) l h x t e p q = record {
  exists = refl;
  below = let i =
      i128_of-some (pos n *ℤ l) t e in let m =
      *ℤ-le (pos n) l x (omega (arith, ints)) p in omega (arith, ints, i, m);
}
column_part-le (Some (negsuc n)) l h x t e p q = record {
  exists = refl;
  below = let i =
      i128_of-some (negsuc n *ℤ h) t e in let m =
      *ℤ-le_turned (negsuc n) x h (omega (arith, ints)) q in omega (arith, ints, i, m);
}

low_part-le : (v : ℤ) (o : Option ℤ) (s t : ℤ) → pos 0 ≤ℤ v → checked_mul (Some v) o ≡ Some t
    → MeetsLow o s → t ≤ℤ (v *ℤ s)
low_part-le v None s t p e m = absurd cc
low_part-le v (Some l) s t p e m = let i = i128_of-some (v *ℤ l) t e in let k =
    *ℤ-le v l s p m in omega (arith, ints, i, k)

high_part-le : (v : ℤ) (o : Option ℤ) (s t : ℤ) → v ≤ℤ pos 0 → checked_mul (Some v) o ≡ Some t
    → MeetsHigh o s → t ≤ℤ (v *ℤ s)
high_part-le v None s t p e m = absurd cc
high_part-le v (Some h) s t p e m = let i = i128_of-some (v *ℤ h) t e in let k =
    *ℤ-le_turned v s h p m in omega (arith, ints, i, k)

pub line_part-le : (v : ℤ) (line : Line) (s t : ℤ) → line_part v line ≡ Some t
    → MeetsLow line.low s → MeetsHigh line.high s → t ≤ℤ (v *ℤ s)
line_part-le (pos zero) line s t e l h = let i : pos 0 ≡ t = cc in let z =
    zero-*ℤ s in omega (arith, ints, i, z)
line_part-le (pos (suc n)) line s t e l h =
    low_part-le (pos (suc n)) line.low s t (omega (arith, ints)) e l
line_part-le (negsuc n) line s t e l h =
    high_part-le (negsuc n) line.high s t (omega (arith, ints)) e h

-- ---- the exchange of the sums
-- the multipliers' part of column j, times the entry
turn : (m : ℕ) (start x : ℤ) (y a : ℕ → ℤ) → (start +ℤ sum_below m (λ i. neg_ℤ (y i *ℤ a i))) *ℤ x
    ≡ start *ℤ x +ℤ sum_below m (λ i. neg_ℤ (y i) *ℤ (a i *ℤ x))
turn m start x y a =
    let d = +ℤ-*ℤ start (sum_below m (λ i. neg_ℤ (y i *ℤ a i))) x in
    let c = *ℤ_comm (sum_below m (λ i. neg_ℤ (y i *ℤ a i))) x in
    let t = sum_below-times m x (λ i. neg_ℤ (y i *ℤ a i)) in
    let s = sum_below-same m (λ i. x *ℤ neg_ℤ (y i *ℤ a i)) (λ i. neg_ℤ (y i) *ℤ (a i *ℤ x))
    (λ k l. one x (y k) (a k)) in
    d ∙ ap (λ (v : ℤ). start *ℤ x +ℤ v) (c ∙ sym t ∙ s)
  where
    one : (x y a : ℤ) → x *ℤ neg_ℤ (y *ℤ a) ≡ neg_ℤ y *ℤ (a *ℤ x)
    one x y a = *ℤ_comm x (neg_ℤ (y *ℤ a)) ∙ ap (λ (v : ℤ). v *ℤ x) (sym (neg-*ℤ y a))
        ∙ *ℤ_assoc (neg_ℤ y) a x

-- the columns' parts are d times the costs less the lines' sums
pub exchange : (n m : ℕ) (d : ℤ) (c x y s : ℕ → ℤ) (a : ℕ → ℕ → ℤ)
    → ((i : ℕ) → i < m → sum_below n (λ j. a i j *ℤ x j) ≡ s i) →
    sum_below n (λ j. (d *ℤ c j +ℤ sum_below m (λ i. neg_ℤ (y i *ℤ a i j))) *ℤ x j) +ℤ sum_below m
    (λ i. y i *ℤ s i) ≡ d *ℤ sum_below n (λ j. c j *ℤ x j)
exchange n m d c x y s a h =
    let t = sum_below-same n (λ j. (d *ℤ c j +ℤ sum_below m (λ i. neg_ℤ (y i *ℤ a i j))) *ℤ x j)
    (λ j. d *ℤ (c j *ℤ x j) +ℤ sum_below m (λ i. neg_ℤ (y i) *ℤ (a i j *ℤ x j)))
    (λ k l. turn m (d *ℤ c k) (x k) y (λ i. a i k)
    ∙ ap (λ (v : ℤ). v +ℤ sum_below m (λ i. neg_ℤ (y i) *ℤ (a i k *ℤ x k)))
    (*ℤ_assoc d (c k) (x k))) in
    let p = sum_below-add n (λ j. d *ℤ (c j *ℤ x j))
    (λ j. sum_below m (λ i. neg_ℤ (y i) *ℤ (a i j *ℤ x j))) in
    let q = sum_below-times n d (λ j. c j *ℤ x j) in
    let w = sum_below-swap n m (λ i j. neg_ℤ (y i) *ℤ (a i j *ℤ x j)) in
    let r = sum_below-same m (λ i. sum_below n (λ j. neg_ℤ (y i) *ℤ (a i j *ℤ x j)))
    (λ i. neg_ℤ (y i) *ℤ s i)
    (λ k l. sum_below-times n (neg_ℤ (y k)) (λ j. a k j *ℤ x j)
    ∙ ap (λ (v : ℤ). neg_ℤ (y k) *ℤ v) (h k l)) in
    let z = sym (sum_below-add m (λ i. neg_ℤ (y i) *ℤ s i) (λ i. y i *ℤ s i))
    ∙ sum_below-zero m (λ i. neg_ℤ (y i) *ℤ s i +ℤ y i *ℤ s i)
    (λ k l. let e = neg-*ℤ (y k) (s k) in omega (arith, ints, e)) in
    omega (arith, ints, t, p, q, w, r, z)

-- ---- the law
pub bound_sum-le : (offset : ℤ) (costs lows highs : List ℤ) (lines : List Line) (y x : List ℤ)
    (d s : ℤ) →
    length x ≡ length costs → InBox lows highs x
    → All (λ line. AreTerms (length costs) line.terms) lines → All (MeetsLine x) lines →
    bound_sum offset costs lows highs lines y d ≡ Some s →
    s ≤ℤ (d *ℤ (offset +ℤ sum_below (length costs) (λ j. at costs j *ℤ at x j)))
bound_sum-le offset costs lows highs lines y x d s w box terms meets e =
    let n = length costs in
    let m = length lines in
    let r = λ (j : ℕ). reduced_cost (d *ℤ at costs j) lines y j in
    let columns = λ (j : ℕ). column_part (r j) (at lows j) (at highs j) in
    let parts = λ (i : ℕ). line_part (at y i) (line_at lines i) in
    let sums = λ (i : ℕ). sum_of_terms (line_at lines i).terms x in
    let a = λ (i : ℕ) (j : ℕ). coefficient_of (line_at lines i).terms j in
    let outer = checked_sum-some (checked_sum (i128_of (d *ℤ offset)) n columns) m parts s e in
    let inner = checked_sum-some (i128_of (d *ℤ offset)) n columns
    (number (checked_sum (i128_of (d *ℤ offset)) n columns)) outer.start_exists in
    let start = i128_of-some (d *ℤ offset) (number (i128_of (d *ℤ offset))) inner.start_exists in
    let inside = λ (j : ℕ) (l : j < n). box-entry lows highs x j box (omega arith) in
    let column = λ (j : ℕ) (l : j < n). column_part-le (r j) (at lows j) (at highs j) (at x j)
    (number (columns j)) (inner.each j l) (inside j l).0 (inside j l).1 in
    let reduced = λ (j : ℕ) (l : j < n).
    (let q = checked_sum-some (i128_of (d *ℤ at costs j)) m (λ i. Some (neg_ℤ (at y i *ℤ a i j)))
    (number (r j)) (column j l).exists in
    let v = i128_of-some (d *ℤ at costs j) (number (i128_of (d *ℤ at costs j))) q.start_exists in
    q.exact ∙ ap (λ (z : ℤ). z +ℤ sum_below m (λ i. neg_ℤ (at y i *ℤ a i j))) (sym v)) in
    let by_columns = sum_below-le n (λ j. number (columns j))
    (λ j. (d *ℤ at costs j +ℤ sum_below m (λ i. neg_ℤ (at y i *ℤ a i j))) *ℤ at x j)
    (λ j l. rw (reduced j l) at (column j l).below) in
    let by_lines = sum_below-le m (λ i. number (parts i)) (λ i. at y i *ℤ sums i)
    (λ i l. let k = meets i (record { terms = []; low = None; high = None }) l in line_part-le
    (at y i) (line_at lines i) (sums i) (number (parts i)) (outer.each i l) k.low k.high) in
    let e1 = exchange n m d (at costs) (at x) (at y) sums a
    (λ i l. dense n (line_at lines i).terms x
    (terms i (record { terms = []; low = None; high = None }) l)) in
    let e2 = *ℤ-+ℤ d offset (sum_below n (λ j. at costs j *ℤ at x j)) in
    omega (arith, ints, outer.exact, inner.exact, start, by_columns, by_lines, e1, e2)
