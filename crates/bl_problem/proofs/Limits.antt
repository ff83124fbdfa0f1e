-- What the limits give: products that fit, and sums that stay far from the ends of `i128`.
use Rattle.std.proofs.Common.{◌≡◌, ℕ, ◌^◌, ◌≤◌, ◌<◌, ℤ, ◌*ℤ◌, arith, FitsSigned, to_z, of_z, List}
use Rattle.std.proofs.Common.{[], ◌∷◌, length, slice_index_or, zero, suc}
use Rattle.std.specs.Int.{w64}
use Rattle.std.proofs.lemmas.Int.{ints, to_z-of_z}
use Rattle.bl_num.proofs.SumLemmas.{product_within}
use Rattle.bl_problem.specs.Sums.{IsWithin}
use Rattle.bl_problem.specs.Rows.{AreTerms}
use Rattle.bl_problem.specs.declared.problem.Term.{Term}

-- what `product` answered for a coefficient and an entry
pub limited_product : (r a b : ℤ) → r ≡ to_z w64 (of_z w64 a) *ℤ to_z w64 (of_z w64 b)
    → IsWithin (10 ^ 15) a → IsWithin (10 ^ 9) b → (r ≡ a *ℤ b) × IsWithin (10 ^ 24) r
limited_product r a b e h k =
    let f : FitsSigned w64 a = omega (arith, ints) in
    let g : FitsSigned w64 b = omega (arith, ints) in
    let q = simp to_z-of_z at e in
    let p = product_within a b (10 ^ 15) (10 ^ 9) h k in
    (q, rw q p)

-- terms in rising order over n columns are at most n
rising_at : (n : ℕ) (ts : List Term) (d : Term) → AreTerms n ts → (k : ℕ) → k < length ts → k
    ≤ (slice_index_or ts k d).column
rising_at n ts d h zero l = omega arith
rising_at n ts d h (suc k) l =
    let i = rising_at n ts d h k (omega arith) in
    let r = h.rising k (suc k) d (omega arith) l in
    omega arith

pub length-rising : (n : ℕ) (ts : List Term) → AreTerms n ts → length ts ≤ n
length-rising n [] h = omega arith
length-rising n (t ∷ ts) h =
    let r = rising_at n (t ∷ ts) t h (length ts) (omega arith) in
    let e = h.each (length ts) t (omega arith) in
    omega (arith, e.column)
