-- The lesser of cost times low and cost times high is at most cost times any entry between.
use Rattle.std.proofs.Common.{ℕ, zero, suc, ℤ, pos, ◌*ℤ◌, ◌≤ℤ◌, arith, List, [], ◌∷◌, length}
use Rattle.std.proofs.lemmas.Int.{ints, clamps, by_lt_z}
use Rattle.std.specs.Int.{int_min}
use Rattle.bl_num.specs.Exact.{at}
use Rattle.bl_num.proofs.Ring.{*ℤ-le, *ℤ-le_turned}
use Rattle.bl_num.proofs.SumLemmas.{sum_below-le}
use Rattle.bl_problem.specs.Sums.{IsWithin}
use Rattle.bl_problem.specs.Program.{Program}
use Rattle.bl_problem.specs.Points.{InBox, value_of, trivial_bound_of, costs_of}

pub min_product : (c l h x : ℤ) → l ≤ℤ x → x ≤ℤ h → int_min (c *ℤ l) (c *ℤ h) ≤ℤ (c *ℤ x)
min_product c l h x p q =
    by_lt_z c (pos 0) (λ n. let m = *ℤ-le_turned c x h (omega (arith, ints)) q in omega
    (arith, ints, clamps)) (λ n. let m = *ℤ-le c l x n p in omega (arith, ints, clamps))

pub min_within : (m : ℕ) (a b : ℤ) → IsWithin m a → IsWithin m b → IsWithin m (int_min a b)
min_within m a b h k = omega (arith, ints, clamps)

-- an entry of a point in a box; past the end of the lists all are 0
pub box-entry_any : (lows highs x : List ℤ) (j : ℕ) → InBox lows highs x → (at lows j ≤ℤ at x j)
    × (at x j ≤ℤ at highs j)
box-entry_any [] [] [] j b = (omega (arith, ints), omega (arith, ints))
box-entry_any [] [] (v ∷ x) j b = absurd b
box-entry_any [] (h ∷ highs) x j b = absurd b
box-entry_any (l ∷ lows) [] x j b = absurd b
box-entry_any (l ∷ lows) (h ∷ highs) [] j b = absurd b
box-entry_any (l ∷ lows) (h ∷ highs) (v ∷ x) zero b = (b.0, b.1)
box-entry_any (l ∷ lows) (h ∷ highs) (v ∷ x) (suc j) b = box-entry_any lows highs x j b.2

pub trivial_bound-below : (p : Program) (lows highs x : List ℤ) → InBox lows highs x
    → trivial_bound_of p lows highs ≤ℤ value_of p x
trivial_bound-below p lows highs x b =
    let s = sum_below-le (length p.columns) (λ j. int_min (at (costs_of p.columns) j *ℤ at lows j)
    (at (costs_of p.columns) j *ℤ at highs j)) (λ j. at (costs_of p.columns) j *ℤ at x j)
    (λ j l. let e = box-entry_any lows highs x j b in min_product (at (costs_of p.columns) j)
    (at lows j) (at highs j) (at x j) e.0 e.1) in
    omega (arith, ints, s)
