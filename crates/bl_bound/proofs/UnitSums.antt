-- What unit multipliers give, in exact numbers.
use Rattle.std.proofs.Common.{◌≡◌, ℕ, zero, suc, ◌<◌, ◌≤◌, ◌+◌, ◌*◌, ◌^◌, ℤ, pos, negsuc, ◌+ℤ◌}
use Rattle.std.proofs.Common.{◌-ℤ◌, ◌*ℤ◌, arith, List, length, Option, Some, None, FitsSigned}
use Rattle.std.proofs.Common.{to_z, of_z, refl, sym, ◌∙◌, ap, slice_index_or, take, option_map}
use Rattle.std.proofs.lemmas.List.Sums.{fold_more}
use Rattle.bl_problem.specs.declared.problem.Term.{Term}
use Rattle.std.specs.Int.{w64, w128}
use Rattle.std.proofs.lemmas.Int.{ints, to_z-of_z}
use native.Mathlib.Decide.{ℕ_discrete}
use Rattle.bl_num.specs.Exact.{sum_below}
use Rattle.bl_num.specs.Checked.{i128_of, checked_add, checked_sum}
use Rattle.bl_num.proofs.CheckedLemmas.{i128_of_fits}
use Rattle.bl_num.proofs.SumLemmas.{product_within}
use Rattle.bl_problem.specs.Sums.{IsWithin}
use Rattle.bl_bound.specs.Bounds.{column_part}
use Rattle.bl_bound.specs.Steps.{IsSettled}
use Rattle.bl_bound.specs.Units.{least_of, moved_by, moved, end_of, row_bound}
use Rattle.bl_problem.specs.Rows.{AreEnds}
use Rattle.bl_problem.specs.declared.problem.Row.{Row}
use Rattle.bl_bound.proofs.Columns.{checked_add-settled}

-- ---- checked sums of small numbers
pub zeros_keep : (o : Option ℤ) (n : ℕ) (f : ℕ → Option ℤ) → IsSettled o
    → ((k : ℕ) → k < n → f k ≡ Some (pos 0)) → checked_sum o n f ≡ o
unfolding checked_sum
zeros_keep o zero f s h = refl
zeros_keep o (suc n) f s h =
    let i = zeros_keep o n f s (λ k l. h k (omega arith)) in
    ap (λ (v : Option ℤ). checked_add v (f n)) i
    ∙ ap (λ (v : Option ℤ). checked_add o v) (h n (omega arith)) ∙ s.same

pub only_one : (o : Option ℤ) (n i : ℕ) (f : ℕ → Option ℤ) → IsSettled o → i < n
    → ((k : ℕ) → k < n → ¬ (k ≡ i) → f k ≡ Some (pos 0)) → checked_sum o n f ≡ checked_add o (f i)
unfolding checked_sum
only_one o zero i f s l h = absurd (omega arith)
only_one o (suc n) i f s l h = elim (ℕ_discrete i n) [
  | yes e ↦
      let z = zeros_keep o n f s (λ k m. h k (omega arith) (λ q. absurd (omega (arith, q, e, m))))
      in
      ap (λ (v : Option ℤ). checked_add v (f n)) z ∙ ap (λ (k : ℕ). checked_add o (f k)) (sym e)
  | no d ↦
      let r = only_one o n i f s (omega (arith, d, l)) (λ k m q. h k (omega arith) q) in
      let z = h n (omega arith) (λ q. d (sym q)) in
      ap (λ (v : Option ℤ). checked_add v (f n)) r
      ∙ ap (λ (v : Option ℤ). checked_add (checked_add o (f i)) v) z
      ∙ (checked_add-settled o (f i)).same
]

pub some_settled : (s : ℤ) → IsWithin (10 ^ 30) s → IsSettled (Some s)
some_settled s h = record {
  same = let e : s +ℤ pos 0 ≡ s = omega (arith, ints) in ap i128_of e
      ∙ i128_of_fits s (omega (arith, ints));
}

-- the sum, and that it is small
pub record SumFits (s : ℤ) (n : ℕ) (f : ℕ → Option ℤ) (g : ℕ → ℤ) : Type 0 where
  pub exact : checked_sum (Some s) n f ≡ Some (s +ℤ sum_below n g)
  pub near : IsWithin (10 ^ 24 + n * (2 * 10 ^ 24)) (s +ℤ sum_below n g)

pub sum_fits : (s : ℤ) (n : ℕ) (f : ℕ → Option ℤ) (g : ℕ → ℤ) → IsWithin (10 ^ 24) s → n ≤ 1000
    → ((k : ℕ) → k < n → f k ≡ Some (g k)) → ((k : ℕ) → k < n → IsWithin (2 * 10 ^ 24) (g k))
    → SumFits s n f g
unfolding checked_sum
sum_fits s zero f g a l e h = record {
  exact = let z : s ≡ s +ℤ pos 0 =
      omega (arith, ints) in ap Some z;
  near = omega (arith, ints);
}
sum_fits s (suc n) f g a l e h =
    let i = sum_fits s n f g a (omega arith) (λ k m. e k (omega arith)) (λ k m. h k (omega arith))
    in
    let w = h n (omega arith) in
    let near = i.near in
    let z : (s +ℤ sum_below n g) +ℤ g n ≡ s +ℤ (sum_below n g +ℤ g n) = omega (arith, ints) in
    record {
      exact = ap (λ (o : Option ℤ). checked_add o (f n)) i.exact ∙ ap
          (λ (o : Option ℤ). checked_add (Some (s +ℤ sum_below n g)) o) (e n (omega arith))
          ∙ i128_of_fits ((s +ℤ sum_below n g) +ℤ g n) (omega (arith, ints, near, w)) ∙ ap Some z;
      near = omega (arith, ints, near, w);
    }

-- ---- one part
pub least-near : (r low high : ℤ) (m : ℕ) → IsWithin m r → IsWithin (10 ^ 9) low
    → IsWithin (10 ^ 9) high → IsWithin (m * 10 ^ 9) (least_of r low high)
least-near (pos n) low high m h k l = product_within (pos n) low m (10 ^ 9) h k
least-near (negsuc n) low high m h k l = product_within (negsuc n) high m (10 ^ 9) h l

pub column_part-small : (r low high : ℤ) → IsWithin (2 * 10 ^ 15) r → IsWithin (10 ^ 9) low
    → IsWithin (10 ^ 9) high → column_part (Some r) low high ≡ Some (least_of r low high)
column_part-small (pos n) low high h k l = let w =
    least-near (pos n) low high (2 * 10 ^ 15) h k l in i128_of_fits (pos n *ℤ low)
    (omega (arith, ints, w))
column_part-small (negsuc n) low high h k l = let w =
    least-near (negsuc n) low high (2 * 10 ^ 15) h k l in i128_of_fits (negsuc n *ℤ high)
    (omega (arith, ints, w))

-- what `least` answered, at numbers within the limits
pub least_is : (v r low high : ℤ) (m : ℕ) → v ≡ least_of (to_z w64 (of_z w64 r))
    (to_z w64 (of_z w64 low)) (to_z w64 (of_z w64 high)) → m ≤ 2 * 10 ^ 15 → IsWithin m r
    → IsWithin (10 ^ 9) low → IsWithin (10 ^ 9) high →
    (v ≡ least_of r low high) × IsWithin (m * 10 ^ 9) v
least_is v r low high m e n h k l =
    let a : FitsSigned w64 r = omega (arith, ints) in
    let b : FitsSigned w64 low = omega (arith, ints) in
    let c : FitsSigned w64 high = omega (arith, ints) in
    let q = simp to_z-of_z at e in
    (q, rw q (least-near r low high m h k l))

-- y times a, for a y of at most 1
pub unit_times : (y a : ℤ) (m : ℕ) → IsWithin 1 y → IsWithin m a → IsWithin m (y *ℤ a)
unit_times y a m h k = let p = product_within y a 1 m h k in omega (arith, p)

-- what `part_move` answered for the step y * a
pub move_is : (v c low high y a : ℤ) →
    v ≡ least_of
    (to_z w64 (of_z w64 c) -ℤ to_z w64
    (of_z w64 (to_z w64 (of_z w64 y) *ℤ to_z w64 (of_z w64 a)))) (to_z w64 (of_z w64 low))
    (to_z w64 (of_z w64 high)) -ℤ least_of (to_z w64 (of_z w64 c)) (to_z w64 (of_z w64 low))
    (to_z w64 (of_z w64 high)) →
    IsWithin (10 ^ 15) c → IsWithin (10 ^ 9) low → IsWithin (10 ^ 9) high → IsWithin 1 y
    → IsWithin (10 ^ 15) a →
    v ≡ least_of (c -ℤ y *ℤ a) low high -ℤ least_of c low high
move_is v c low high y a e h k l m n =
    let w = unit_times y a (10 ^ 15) m n in
    let f : FitsSigned w64 c = omega (arith, ints) in
    let g : FitsSigned w64 low = omega (arith, ints) in
    let i : FitsSigned w64 high = omega (arith, ints) in
    let j : FitsSigned w64 y = omega (arith, ints) in
    let o : FitsSigned w64 a = omega (arith, ints) in
    let p : FitsSigned w64 (y *ℤ a) = omega (arith, ints, w) in
    simp to_z-of_z at e

-- the step itself
pub step_near : (y a : ℤ) → IsWithin 1 y → IsWithin (10 ^ 15) a
    → IsWithin (10 ^ 15) (to_z w64 (of_z w64 (to_z w64 (of_z w64 y) *ℤ to_z w64 (of_z w64 a))))
step_near y a m n =
    let w = unit_times y a (10 ^ 15) m n in
    let j : FitsSigned w64 y = omega (arith, ints) in
    let o : FitsSigned w64 a = omega (arith, ints) in
    let p : FitsSigned w64 (y *ℤ a) = omega (arith, ints, w) in
    simp to_z-of_z w

-- one more term
pub moved-more : (costs lows highs : List ℤ) (y : ℤ) (terms : List Term) (k : ℕ) (d : Term)
    (sum v : ℤ) → k < length terms → sum ≡ moved costs lows highs y (take k terms) →
    v ≡ moved_by costs lows highs y (slice_index_or terms k d).column
    (slice_index_or terms k d).coefficient → sum +ℤ v
    ≡ moved costs lows highs y (take (k + 1) terms)
moved-more costs lows highs y terms k d sum v l e f =
    let m = fold_more (λ (s : ℤ) (t : Term). s +ℤ moved_by costs lows highs y t.column
    t.coefficient) (pos 0) terms k d l in
    ap (λ (z : ℤ). z +ℤ v) e ∙ ap (λ (z : ℤ). moved costs lows highs y (take k terms) +ℤ z) f
    ∙ sym m

pub low-near : (low high : Option ℤ) (e : ℤ) → AreEnds low high → low ≡ Some e
    → IsWithin (10 ^ 24) e
low-near None high e h q = absurd cc
low-near (Some l) None e h q = let i : l ≡ e = cc in rw (← i) h
low-near (Some l) (Some u) e h q = let i : l ≡ e = cc in rw (← i) h.0

pub high-near : (low high : Option ℤ) (e : ℤ) → AreEnds low high → high ≡ Some e
    → IsWithin (10 ^ 24) e
high-near low None e h q = absurd cc
high-near None (Some u) e h q = let i : u ≡ e = cc in rw (← i) h
high-near (Some l) (Some u) e h q = let i : u ≡ e = cc in rw (← i) h.1

-- the end that a multiplier asks for is within the limits
pub end-near : (y : ℤ) (low high : Option ℤ) (e : ℤ) → AreEnds low high → end_of y low high
    ≡ Some e → IsWithin (10 ^ 24) e
end-near (pos zero) low high e h q = high-near low high e h q
end-near (pos (suc n)) low high e h q = low-near low high e h q
end-near (negsuc n) low high e h q = high-near low high e h q

-- what `row_sum` answers where the end is there
pub row_bound_is : (v base y e : ℤ) (costs lows highs : List ℤ) (row : Row)
    → end_of y row.low row.high ≡ Some e → v ≡ base +ℤ moved costs lows highs y row.terms +ℤ y *ℤ
    e → Some v ≡ row_bound base costs lows highs y row
row_bound_is v base y e costs lows highs row q h =
    ap Some h
    ∙ ap (λ (o : Option ℤ). option_map (λ z. base +ℤ moved costs lows highs y row.terms +ℤ y *ℤ z)
    o) (sym q)

-- how the machine adds them up
abbrev pub summed : ℤ → ℤ → ℤ → ℤ → ℤ
summed b m y e = to_z w128 (of_z w128 (to_z w128 (of_z w128 b) +ℤ to_z w128 (of_z w128 m))) +ℤ
    to_z w128 (of_z w128 (to_z w128 (of_z w128 (to_z w64 (of_z w64 y))) *ℤ to_z w128 (of_z w128 e)))

pub record TotalIs (b m y e v : ℤ) : Type 0 where
  pub fits : FitsSigned w128 v
  pub exact : to_z w128 (of_z w128 v) ≡ b +ℤ m +ℤ y *ℤ e

pub total_is : (b m y e : ℤ) → IsWithin (10 ^ 28) b → IsWithin (10 ^ 28) m → IsWithin 1 y
    → IsWithin (10 ^ 24) e →
    TotalIs b m y e (summed b m y e)
total_is b m y e h k l n =
    let w = unit_times y e (10 ^ 24) l n in
    let f : FitsSigned w128 b = omega (arith, ints) in
    let g : FitsSigned w128 m = omega (arith, ints) in
    let i : FitsSigned w64 y = omega (arith, ints) in
    let i' : FitsSigned w128 y = omega (arith, ints) in
    let j : FitsSigned w128 e = omega (arith, ints) in
    let p : FitsSigned w128 (y *ℤ e) = omega (arith, ints, w) in
    let q : FitsSigned w128 (b +ℤ m) = omega (arith, ints) in
    let r : FitsSigned w128 ((b +ℤ m) +ℤ y *ℤ e) = omega (arith, ints, w) in
    record { fits = simp to_z-of_z r; exact = simp to_z-of_z }
