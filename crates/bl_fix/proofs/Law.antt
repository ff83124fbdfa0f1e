-- Reduced-cost fixing: what a bound leaves of each column's entry in a point whose value is at
-- most a number.
use Rattle.std.proofs.Common.{◌≡◌, ℕ, zero, suc, ◌<◌, ◌≤◌, ℤ, pos, negsuc, ◌+ℤ◌, ◌-ℤ◌, ◌*ℤ◌}
use Rattle.std.proofs.Common.{neg_ℤ, ◌≤ℤ◌, arith, List, [], length, All, Option, Some, None, sym}
use Rattle.std.proofs.Common.{◌∙◌, ap, ⊎_elim}
use Rattle.std.proofs.lemmas.Int.{ints}
use Rattle.std.proofs.lemmas.Bool.{cases_lt}
use Rattle.std.proofs.lemmas.List.{length-map}
use Rattle.std.proofs.Math.IntN.{*ℤ_comm}
use Rattle.bl_num.specs.Exact.{sum_below, at, floor_of}
use Rattle.bl_num.specs.Checked.{i128_of, checked_sum}
use Rattle.bl_num.proofs.Ring.{*ℤ-+ℤ, neg-*ℤ}
use Rattle.bl_num.proofs.SumLemmas.{sum_below-le}
use Rattle.bl_num.proofs.CheckedLemmas.{number, checked_sum-some, i128_of-some}
use Rattle.bl_num.proofs.Quotients.{le_floor}
use Rattle.bl_problem.specs.Sums.{sum_of_terms}
use Rattle.bl_problem.specs.Program.{Program, IsProgram}
use Rattle.bl_problem.specs.Points.{InBox, costs_of, value_of}
use Rattle.bl_problem.specs.Rows.{AreTerms, coefficient_of}
use Rattle.bl_problem.specs.declared.cut.Cut.{Cut}
use Rattle.bl_problem.specs.declared.problem.Column.{Column}
use Rattle.bl_problem.proofs.Boxes.{box-entry, box-width}
use Rattle.bl_desc.specs.declared.desc.Desc.{Desc}
use Rattle.bl_bound.specs.Lines.{Line, line_at, lines_of, MeetsLine}
use Rattle.bl_bound.specs.Bounds.{reduced_cost, column_part, line_part, bound_sum}
use Rattle.bl_bound.specs.Bounds.{multiplier_sum_of}
use Rattle.bl_bound.specs.Descriptions.{Describes, IsLeft}
use Rattle.bl_bound.proofs.Terms.{dense}
use Rattle.bl_bound.proofs.Duality.{exchange, column_part-le, line_part-le}
use Rattle.bl_bound.proofs.Meets.{lines_meet, lines_terms}

-- one summand's distance is at most that of the sums
gap : (n j : ℕ) (f g : ℕ → ℤ) → j < n → ((k : ℕ) → k < n → f k ≤ℤ g k)
    → (sum_below n f +ℤ (g j -ℤ f j)) ≤ℤ sum_below n g
gap zero j f g l h = absurd (omega (arith, l))
gap (suc n) j f g l h = ⊎_elim
    (λ (m : j < n). let i : (sum_below n f +ℤ (g j -ℤ f j)) ≤ℤ sum_below n g =
    gap n j f g m (λ k q. h k (omega (arith, q))) in let e : f n ≤ℤ g n =
    h n (omega arith) in omega (arith, ints, i, e))
    (λ (m : n ≤ j). let z : j ≡ n = omega (arith, l, m) in let s : sum_below n f ≤ℤ sum_below n
    g = sum_below-le n f g (λ k q. h k (omega (arith, q))) in rw z (omega (arith, ints, s)))
    (cases_lt j n)

-- a column's reduced cost times its entry is above its part by no more than d times the value is
-- above the sum
column_gap : (offset : ℤ) (costs lows highs : List ℤ) (lines : List Line) (y x : List ℤ) (d s : ℤ)
    (place : ℕ) →
    length x ≡ length costs → InBox lows highs x
    → All (λ line. AreTerms (length costs) line.terms) lines → All (MeetsLine x) lines → place
    < length costs →
    bound_sum offset costs lows highs lines y d ≡ Some s →
    (s +ℤ (number (reduced_cost (d *ℤ at costs place) lines y place) *ℤ at x place -ℤ number
    (column_part (reduced_cost (d *ℤ at costs place) lines y place) (at lows place)
    (at highs place))))
    ≤ℤ (d *ℤ (offset +ℤ sum_below (length costs) (λ j. at costs j *ℤ at x j)))
column_gap offset costs lows highs lines y x d s place w box terms meets inhere e =
    let n = length costs in
    let m = length lines in
    let r = λ (j : ℕ). reduced_cost (d *ℤ at costs j) lines y j in
    let columns = λ (j : ℕ). column_part (r j) (at lows j) (at highs j) in
    let parts = λ (i : ℕ). line_part (at y i) (line_at lines i) in
    let sums = λ (i : ℕ). sum_of_terms (line_at lines i).terms x in
    let a = λ (i : ℕ) (j : ℕ). coefficient_of (line_at lines i).terms j in
    let outer = checked_sum-some (checked_sum (i128_of (d *ℤ offset)) n columns) m parts s e in
    let inner = checked_sum-some (i128_of (d *ℤ offset)) n columns
    (number (checked_sum (i128_of (d *ℤ offset)) n columns)) outer.start_exists in
    let start = i128_of-some (d *ℤ offset) (number (i128_of (d *ℤ offset))) inner.start_exists in
    let inside = λ (j : ℕ) (l : j < n). box-entry lows highs x j box (omega arith) in
    let column = λ (j : ℕ) (l : j < n). column_part-le (r j) (at lows j) (at highs j) (at x j)
    (number (columns j)) (inner.each j l) (inside j l).0 (inside j l).1 in
    let reduced = λ (j : ℕ) (l : j < n).
    (let q = checked_sum-some (i128_of (d *ℤ at costs j)) m (λ i. Some (neg_ℤ (at y i *ℤ a i j)))
    (number (r j)) (column j l).exists in
    let v = i128_of-some (d *ℤ at costs j) (number (i128_of (d *ℤ at costs j))) q.start_exists in
    q.exact ∙ ap (λ (z : ℤ). z +ℤ sum_below m (λ i. neg_ℤ (at y i *ℤ a i j))) (sym v)) in
    let by_columns = gap n place (λ j. number (columns j))
    (λ j. (d *ℤ at costs j +ℤ sum_below m (λ i. neg_ℤ (at y i *ℤ a i j))) *ℤ at x j) inhere
    (λ j l. rw (reduced j l) at (column j l).below) in
    let by_lines = sum_below-le m (λ i. number (parts i)) (λ i. at y i *ℤ sums i)
    (λ i l. let k = meets i (record { terms = []; low = None; high = None }) l in line_part-le
    (at y i) (line_at lines i) (sums i) (number (parts i)) (outer.each i l) k.low k.high) in
    let e1 = exchange n m d (at costs) (at x) (at y) sums a
    (λ i l. dense n (line_at lines i).terms x
    (terms i (record { terms = []; low = None; high = None }) l)) in
    let e2 = *ℤ-+ℤ d offset (sum_below n (λ j. at costs j *ℤ at x j)) in
    let here : number (r place) *ℤ at x place
    ≡ (d *ℤ at costs place +ℤ sum_below m (λ i. neg_ℤ (at y i *ℤ a i place))) *ℤ at x place =
    ap (λ (z : ℤ). z *ℤ at x place) (reduced place inhere) in
    omega (arith, ints, outer.exact, inner.exact, start, by_columns, by_lines, e1, e2, here)

-- ---- what is decided of one column
-- where its reduced cost is positive the entry is at most the low and the quotient, where it is
-- negative at least the high less the quotient
pub record FixedBy (r : Option ℤ) (low high s x : ℤ) : Type 0 where
  pub above : (a : ℕ) → r ≡ Some (pos (suc a)) → x ≤ℤ (low +ℤ floor_of s (pos (suc a)))
  pub below : (a : ℕ) → r ≡ Some (negsuc a) → (high -ℤ floor_of s (pos (suc a))) ≤ℤ x

fixed : (r : Option ℤ) (low high s x t : ℤ) → column_part r low high ≡ Some t
    → (number r *ℤ x -ℤ t) ≤ℤ s → FixedBy r low high s x
fixed r low high s x t e h = record {
  above = λ a k.
      let p : column_part (Some (pos (suc a))) low high ≡ Some t = rw k at e in
      let i = i128_of-some (pos (suc a) *ℤ low) t p in
      let q : (pos (suc a) *ℤ x -ℤ t) ≤ℤ s = rw k at h in
      let c = *ℤ_comm (x -ℤ low) (pos (suc a)) in
      let m = *ℤ-+ℤ (pos (suc a)) (x -ℤ low) low in
      let z : (x -ℤ low) +ℤ low ≡ x = omega (arith, ints) in
      let w = ap (λ (v : ℤ). pos (suc a) *ℤ v) z in
      let f = le_floor (x -ℤ low) s (pos (suc a)) (omega (arith, ints))
      (omega (arith, ints, i, q, c, m, w)) in
      omega (arith, ints, f);
  below = λ a k.
      let p : column_part (Some (negsuc a)) low high ≡ Some t = rw k at e in
      let i = i128_of-some (negsuc a *ℤ high) t p in
      let q : (negsuc a *ℤ x -ℤ t) ≤ℤ s = rw k at h in
      let g = neg-*ℤ (pos (suc a)) high in
      let g2 = neg-*ℤ (pos (suc a)) x in
      let c = *ℤ_comm (high -ℤ x) (pos (suc a)) in
      let m = *ℤ-+ℤ (pos (suc a)) (high -ℤ x) x in
      let z : (high -ℤ x) +ℤ x ≡ high = omega (arith, ints) in
      let w = ap (λ (v : ℤ). pos (suc a) *ℤ v) z in
      let f = le_floor (high -ℤ x) s (pos (suc a)) (omega (arith, ints))
      (omega (arith, ints, i, q, c, m, w, g, g2)) in
      omega (arith, ints, f);
}

-- ---- the law: points that are left and whose value, counted d times, is at most t
pub fixes : (p : Program) (desc : Desc Cut) (y x : List ℤ) (d s t : ℤ) (j : ℕ) → IsProgram p
    → Describes p desc → IsLeft p desc x → j < length p.columns
    → multiplier_sum_of p desc y d ≡ Some s → (d *ℤ value_of p x) ≤ℤ t
    → FixedBy (reduced_cost (d *ℤ at (costs_of p.columns) j) (lines_of p.rows desc.cuts) y j)
    (at desc.lows j) (at desc.highs j) (t -ℤ s) (at x j)
fixes p desc y x d s t j h u f l e b =
    let costs : List ℤ = costs_of p.columns in
    let lines : List Line = lines_of p.rows desc.cuts in
    let n = length-map p.columns (λ (c : Column). c.cost) in
    let w = box-width desc.lows desc.highs x f.box in
    let r : Option ℤ = reduced_cost (d *ℤ at costs j) lines y j in
    let k : j < length costs = rw n l in
    let outer = checked_sum-some (checked_sum (i128_of (d *ℤ p.offset)) (length costs)
    (λ i. column_part (reduced_cost (d *ℤ at costs i) lines y i) (at desc.lows i)
    (at desc.highs i))) (length lines) (λ i. line_part (at y i) (line_at lines i)) s e in
    let inner = checked_sum-some (i128_of (d *ℤ p.offset)) (length costs)
    (λ i. column_part (reduced_cost (d *ℤ at costs i) lines y i) (at desc.lows i)
    (at desc.highs i)) _ outer.start_exists in
    let g = column_gap p.offset costs desc.lows desc.highs lines y x d s j
    (sym w.lows ∙ u.lows ∙ sym n) f.box (rw n (lines_terms p desc h u))
    (lines_meet p desc x f) k e in
    let v : sum_below (length costs) (λ i. at costs i *ℤ at x i)
    ≡ sum_below (length p.columns) (λ i. at costs i *ℤ at x i) =
    ap (λ (m : ℕ). sum_below m (λ i. at costs i *ℤ at x i)) n in
    let q = ap (λ (z : ℤ). d *ℤ (p.offset +ℤ z)) v in
    fixed r (at desc.lows j) (at desc.highs j) (t -ℤ s) (at x j)
    (number (column_part r (at desc.lows j) (at desc.highs j))) (inner.each j k)
    (omega (arith, ints, g, q, b))
