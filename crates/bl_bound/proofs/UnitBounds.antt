-- The bound of unit multipliers is what the greatest is taken over.
use Rattle.std.proofs.Common.{◌≡◌, ℕ, zero, suc, ◌<◌, ◌≤◌, ◌*◌, ◌^◌, ℤ, pos, negsuc, ◌+ℤ◌, ◌-ℤ◌}
use Rattle.std.proofs.Common.{◌*ℤ◌, neg_ℤ, arith, List, [], ◌∷◌, length, Bool, true, false, eqb}
use Rattle.std.proofs.Common.{cond, Option, Some, None, option_map, refl, ◌∙◌, ap, slice_index_or}
use Rattle.std.proofs.lemmas.Int.{ints}
use Rattle.bl_num.specs.Exact.{sum_below, at, ceil_of}
use Rattle.bl_num.specs.Checked.{i128_of, checked_add, checked_mul, checked_sum}
use Rattle.bl_num.proofs.Quotients.{le-ceil_times, ceil_le}
use Rattle.bl_num.proofs.CheckedLemmas.{i128_of_fits}
use Rattle.bl_num.proofs.SumLemmas.{sum_below-same, sum_below-add}
use Rattle.bl_problem.specs.Sums.{IsWithin}
use Rattle.bl_problem.specs.Rows.{AreTerms, AreEnds, coefficient_of}
use Rattle.bl_problem.specs.declared.problem.Row.{Row}
use Rattle.bl_problem.specs.declared.problem.Term.{Term}
use Rattle.bl_problem.specs.declared.cut.Cut.{Cut}
use Rattle.bl_bound.specs.Lines.{Line, line_at, lines_of, line_of_row}
use Rattle.bl_bound.specs.Bounds.{taken, reduced_cost, column_part, column_value, line_part}
use Rattle.bl_bound.specs.Bounds.{line_value, bound_sum}
use Rattle.bl_bound.specs.Units.{least_at, box_bound, moved_by, moved, end_of}
use Rattle.bl_bound.proofs.Columns.{i128_of-settled}
use Rattle.bl_bound.proofs.Terms.{spread, tail_terms}
use Rattle.bl_bound.proofs.UnitSums.{zeros_keep, only_one, some_settled, sum_fits}
use Rattle.bl_bound.proofs.UnitSums.{column_part-small, least-near, unit_times, low-near}
use Rattle.bl_bound.proofs.UnitSums.{high-near}

-- numbers within the limits of problems and descriptions
pub record AreNear (start : ℤ) (costs lows highs : List ℤ) : Type 0 where
  pub few : length costs ≤ 1000
  pub near_start : IsWithin (10 ^ 24) start
  pub near_costs : (j : ℕ) → IsWithin (10 ^ 15) (at costs j)
  pub near_lows : (j : ℕ) → IsWithin (10 ^ 9) (at lows j)
  pub near_highs : (j : ℕ) → IsWithin (10 ^ 9) (at highs j)

nothing_taken : (v a : ℤ) → v ≡ pos 0 → Some (neg_ℤ (v *ℤ a)) ≡ Some (pos 0)
nothing_taken v a e = let z : neg_ℤ (pos 0 *ℤ a) ≡ pos 0 =
    omega (arith, ints) in ap (λ (u : ℤ). Some (neg_ℤ (u *ℤ a))) e ∙ ap Some z

cost_once : (c : ℤ) → IsWithin (10 ^ 15) c → i128_of (pos 1 *ℤ c) ≡ Some c
cost_once c h = let e : pos 1 *ℤ c ≡ c = omega (arith, ints) in ap i128_of e
    ∙ i128_of_fits c (omega (arith, ints))

-- ---- the reduced costs
zero_reduced : (c : ℤ) (lines : List Line) (y : List ℤ) (j : ℕ) → IsWithin (10 ^ 15) c
    → ((k : ℕ) → at y k ≡ pos 0) → reduced_cost (pos 1 *ℤ c) lines y j ≡ Some c
zero_reduced c lines y j h z =
    zeros_keep (i128_of (pos 1 *ℤ c)) (length lines) (taken lines y j)
    (i128_of-settled (pos 1 *ℤ c)) (λ k l. nothing_taken (at y k)
    (coefficient_of (line_at lines k).terms j) (z k)) ∙ cost_once c h

unit_reduced : (c : ℤ) (lines : List Line) (y : List ℤ) (i j : ℕ) → IsWithin (10 ^ 15) c → i
    < length lines → ((k : ℕ) → ¬ (k ≡ i) → at y k ≡ pos 0) →
    IsWithin 1 (at y i) → IsWithin (10 ^ 15) (coefficient_of (line_at lines i).terms j) →
    reduced_cost (pos 1 *ℤ c) lines y j
    ≡ Some (c -ℤ at y i *ℤ coefficient_of (line_at lines i).terms j)
unit_reduced c lines y i j h l z u a =
    let w = unit_times (at y i) (coefficient_of (line_at lines i).terms j) (10 ^ 15) u a in
    only_one (i128_of (pos 1 *ℤ c)) (length lines) i (taken lines y j)
    (i128_of-settled (pos 1 *ℤ c)) l
    (λ k m q. nothing_taken (at y k) (coefficient_of (line_at lines k).terms j) (z k q))
    ∙ ap (λ (o : Option ℤ). checked_add o (taken lines y j i)) (cost_once c h)
    ∙ i128_of_fits (c -ℤ at y i *ℤ coefficient_of (line_at lines i).terms j)
    (omega (arith, ints, w))

-- ---- the columns' sum, by the reduced costs r
pub record ColumnsSum (offset : ℤ) (costs lows highs : List ℤ) (lines : List Line) (y : List ℤ)
    (r : ℕ → ℤ) : Type 0 where
  pub exact : checked_sum (i128_of (pos 1 *ℤ offset)) (length costs)
      (column_value costs lows highs lines y (pos 1))
      ≡ Some (offset +ℤ sum_below (length costs) (λ j. least_at lows highs j (r j)))
  pub near : IsWithin (10 ^ 28)
      (offset +ℤ sum_below (length costs) (λ j. least_at lows highs j (r j)))

columns_sum : (offset : ℤ) (costs lows highs : List ℤ) (lines : List Line) (y : List ℤ)
    (r : ℕ → ℤ) → AreNear offset costs lows highs →
    ((j : ℕ) → reduced_cost (pos 1 *ℤ at costs j) lines y j ≡ Some (r j))
    → ((j : ℕ) → IsWithin (2 * 10 ^ 15) (r j)) → ColumnsSum offset costs lows highs lines y r
columns_sum offset costs lows highs lines y r g e w =
    let few = g.few in
    let o = g.near_start in
    let once : pos 1 *ℤ offset ≡ offset = omega (arith, ints) in
    let start = ap i128_of once ∙ i128_of_fits offset (omega (arith, ints, o)) in
    let s = sum_fits offset (length costs) (column_value costs lows highs lines y (pos 1))
    (λ j. least_at lows highs j (r j)) g.near_start g.few
    (λ k l. ap (λ (o : Option ℤ). column_part o (at lows k) (at highs k)) (e k)
    ∙ column_part-small (r k) (at lows k) (at highs k) (w k) (g.near_lows k) (g.near_highs k))
    (λ k l. least-near (r k) (at lows k) (at highs k) (2 * 10 ^ 15) (w k) (g.near_lows k)
    (g.near_highs k)) in
    let n = s.near in
    record {
      exact = ap (λ (o : Option ℤ). checked_sum o (length costs)
          (column_value costs lows highs lines y (pos 1))) start ∙ s.exact;
      near = omega (arith, ints, n, few);
    }

-- ---- zero multipliers
pub zero_sum : (offset : ℤ) (costs lows highs : List ℤ) (lines : List Line) (y : List ℤ)
    → AreNear offset costs lows highs → ((k : ℕ) → at y k ≡ pos 0) →
    bound_sum offset costs lows highs lines y (pos 1) ≡ Some (box_bound offset costs lows highs)
zero_sum offset costs lows highs lines y g z =
    let s = columns_sum offset costs lows highs lines y (at costs) g
    (λ j. zero_reduced (at costs j) lines y j (g.near_costs j) z)
    (λ j. let c = g.near_costs j in omega (arith, ints, c)) in
    let n = s.near in
    ap (λ (o : Option ℤ). checked_sum o (length lines) (line_value lines y)) s.exact
    ∙ zeros_keep (Some (box_bound offset costs lows highs)) (length lines) (line_value lines y)
    (some_settled (box_bound offset costs lows highs) (omega (arith, ints, n)))
    (λ k l. ap (λ (v : ℤ). line_part v (line_at lines k)) (z k))

-- ---- one multiplier
moved_nothing : (costs lows highs : List ℤ) (v : ℤ) (j : ℕ)
    → moved_by costs lows highs v j (pos 0) ≡ pos 0
moved_nothing costs lows highs v j =
    let e : at costs j -ℤ v *ℤ pos 0 ≡ at costs j = omega (arith, ints) in
    let z : least_at lows highs j (at costs j) -ℤ least_at lows highs j (at costs j) ≡ pos 0 =
    omega (arith, ints) in
    ap (λ (c : ℤ). least_at lows highs j c -ℤ least_at lows highs j (at costs j)) e ∙ z

moved_sum : (offset v : ℤ) (costs lows highs : List ℤ) (ts : List Term)
    → AreTerms (length costs) ts →
    offset +ℤ sum_below (length costs) (λ j. least_at lows highs j
    (at costs j -ℤ v *ℤ coefficient_of ts j)) ≡ box_bound offset costs lows highs +ℤ moved
    costs lows highs v ts
moved_sum offset v costs lows highs ts h =
    let s = spread (length costs) ts (moved_by costs lows highs v) h
    (moved_nothing costs lows highs v) in
    let a = sum_below-add (length costs) (λ j. least_at lows highs j (at costs j))
    (λ j. moved_by costs lows highs v j (coefficient_of ts j)) in
    let e = sum_below-same (length costs) (λ j. least_at lows highs j
    (at costs j -ℤ v *ℤ coefficient_of ts j)) (λ j. least_at lows highs j (at costs j) +ℤ
    moved_by costs lows highs v j (coefficient_of ts j)) (λ k l. omega (arith, ints)) in
    omega (arith, ints, s, a, e)

coefficient-near : (n : ℕ) (ts : List Term) (j : ℕ) → AreTerms n ts
    → IsWithin (10 ^ 15) (coefficient_of ts j)
coefficient-near n [] j h = omega (arith, ints)
coefficient-near n (t ∷ ts) j h = by (eqb t.column j) (h.each 0 t (omega arith)).coefficient
    (coefficient-near n ts j (tail_terms n t ts h))
  where
    by : (b : Bool) → IsWithin (10 ^ 15) t.coefficient → IsWithin (10 ^ 15) (coefficient_of ts j)
        → IsWithin (10 ^ 15) (cond b t.coefficient (coefficient_of ts j))
    by true a i = a
    by false a i = i

-- the bound's sum, before the row's end is added
pub record UnitSum (s : ℤ) (v : ℤ) (line : Line) (bound : Option ℤ) : Type 0 where
  pub exact : bound ≡ checked_add (Some s) (line_part v line)
  pub near : IsWithin (10 ^ 28) s

pub unit_sum : (offset : ℤ) (costs lows highs : List ℤ) (lines : List Line) (y : List ℤ) (i : ℕ)
    → AreNear offset costs lows highs → i < length lines
    → AreTerms (length costs) (line_at lines i).terms →
    IsWithin 1 (at y i) → ((k : ℕ) → ¬ (k ≡ i) → at y k ≡ pos 0) →
    UnitSum (box_bound offset costs lows highs +ℤ moved costs lows highs (at y i)
    (line_at lines i).terms) (at y i) (line_at lines i)
    (bound_sum offset costs lows highs lines y (pos 1))
unit_sum offset costs lows highs lines y i g l h u z =
    let ts = (line_at lines i).terms in
    let r : ℕ → ℤ = λ j. at costs j -ℤ at y i *ℤ coefficient_of ts j in
    let s = columns_sum offset costs lows highs lines y r g
    (λ j. unit_reduced (at costs j) lines y i j (g.near_costs j) l z u
    (coefficient-near (length costs) ts j h))
    (λ j. let c = g.near_costs j in let w = unit_times (at y i) (coefficient_of ts j) (10 ^ 15) u
    (coefficient-near (length costs) ts j h) in omega (arith, ints, c, w)) in
    let n = s.near in
    let m = moved_sum offset (at y i) costs lows highs ts h in
    let total = offset +ℤ sum_below (length costs) (λ j. least_at lows highs j (r j)) in
    record {
      exact = ap (λ (o : Option ℤ). checked_sum o (length lines) (line_value lines y)) s.exact
          ∙ only_one (Some total) (length lines) i (line_value lines y)
          (some_settled total (omega (arith, ints, n))) l
          (λ k a q. ap (λ (v : ℤ). line_part v (line_at lines k)) (z k q))
          ∙ ap (λ (v : ℤ). checked_add (Some v) (line_part (at y i) (line_at lines i))) m;
      near = rw (← m) n;
    }

-- ---- the end of a row
-- the part of an end: v times it
end_part : (s v : ℤ) (end : Option ℤ) → IsWithin (10 ^ 28) s → IsWithin 1 v
    → ((e : ℤ) → end ≡ Some e → IsWithin (10 ^ 24) e)
    → checked_add (Some s) (checked_mul (Some v) end) ≡ option_map (λ e. s +ℤ v *ℤ e) end
end_part s v None h u n = refl
end_part s v (Some e) h u n =
    let w = unit_times v e (10 ^ 24) u (n e refl) in
    ap (λ (o : Option ℤ). checked_add (Some s) o) (i128_of_fits (v *ℤ e) (omega (arith, ints, w)))
    ∙ i128_of_fits (s +ℤ v *ℤ e) (omega (arith, ints, w))

pub row_part : (s v : ℤ) (row : Row) → IsWithin (10 ^ 28) s → IsWithin 1 v → ¬ (v ≡ pos 0)
    → AreEnds row.low row.high → checked_add (Some s) (line_part v (line_of_row row))
    ≡ option_map (λ e. s +ℤ v *ℤ e) (end_of v row.low row.high)
row_part s (pos zero) row h u n a = absurd (n refl)
row_part s (pos (suc k)) row h u n a =
    end_part s (pos (suc k)) row.low h u (λ e q. low-near row.low row.high e a q)
row_part s (negsuc k) row h u n a =
    end_part s (negsuc k) row.high h u (λ e q. high-near row.low row.high e a q)

pub row_line : (rows : List Row) (cuts : List Cut) (i : ℕ) (d : Row) → i < length rows
    → line_at (lines_of rows cuts) i ≡ line_of_row (slice_index_or rows i d)
row_line [] cuts i d l = absurd (omega arith)
row_line (r ∷ rows) cuts zero d l = refl
row_line (r ∷ rows) cuts (suc i) d l = row_line rows cuts i d (omega arith)

ceil-one : (s : ℤ) → ceil_of s (pos 1) ≡ s
ceil-one s =
    let a = le-ceil_times s (pos 1) (omega (arith, ints)) in
    let b = ceil_le s s (pos 1) (omega (arith, ints)) (omega (arith, ints)) in
    omega (arith, ints, a, b)

pub rounded_by_one : (o : Option ℤ) → option_map (λ s. ceil_of s (pos 1)) o ≡ o
rounded_by_one None = refl
rounded_by_one (Some s) = ap Some (ceil-one s)
