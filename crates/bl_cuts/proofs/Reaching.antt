-- Which divisors give a cut that a point above the lows does not break.
use Rattle.std.proofs.Common.{◌≡◌, ℕ, zero, suc, ◌+◌, ◌<◌, ◌≤◌, ℤ, pos, negsuc, ◌+ℤ◌, ◌-ℤ◌, ◌*ℤ◌}
use Rattle.std.proofs.Common.{◌≤ℤ◌, ◌<ℤ◌, arith, List, [], ◌∷◌, length, All, Bool, true, false}
use Rattle.std.proofs.Common.{Option, Some, None, IfSome, refl, sym, ◌∙◌, ap}
use Rattle.std.specs.Prelude.{int_lt, ◌&&◌}
use Rattle.std.proofs.lemmas.Int.{ints, by_lt_z}
use Rattle.std.proofs.lemmas.Bool.Decides.{nat_tests}
use Rattle.std.proofs.Math.IntN.{*ℤ_comm}
use Rattle.bl_num.specs.Exact.{at, floor_of, ceil_of}
use Rattle.bl_num.proofs.Quotients.{le-ceil_times}
use Rattle.bl_num.proofs.Ring.{*ℤ-+ℤ, +ℤ-*ℤ, *ℤ_assoc, *ℤ-le, neg-*ℤ}
use Rattle.bl_fixed.specs.Fixed.{one}
use Rattle.bl_problem.specs.Sums.{total}
use Rattle.bl_problem.specs.declared.problem.Term.{Term}
use Rattle.bl_bound.proofs.Terms.{total-cons}
use Rattle.bl_cuts.specs.OneRow.{quotient_of, quotients_sum, row_right, row_breaks, IsSplit}
use Rattle.bl_cuts.specs.OneRow.{AreAboveLows, IsReach, IsOutOfReach}
use Rattle.bl_cuts.specs.declared.one_row.Split.{Split}
use Rattle.bl_cuts.proofs.RoundingLaw.{one_rounded}
use Rattle.bl_cuts.proofs.OneRow.{floor_one}
use Rattle.bl_cuts.proofs.Separating.{quotients_sum-split}

-- the sum of quotient times distance
distances : ℤ → ℤ → List Term → List ℤ → List ℤ → ℤ
distances v q ts lows x = total
    (λ (t : Term). quotient_of v q t *ℤ (at x t.column -ℤ at lows t.column *ℤ one)) ts

distances-cons : (v q : ℤ) (t : Term) (ts : List Term) (lows x : List ℤ)
    → distances v q (t ∷ ts) lows x
    ≡ quotient_of v q t *ℤ (at x t.column -ℤ at lows t.column *ℤ one) +ℤ distances v q ts lows x
unfolding distances
distances-cons v q t ts lows x =
    total-cons (λ (t : Term). quotient_of v q t *ℤ (at x t.column -ℤ at lows t.column *ℤ one)) t ts

distances-none : (v q : ℤ) (lows x : List ℤ) → distances v q [] lows x ≡ pos 0
unfolding distances
distances-none v q lows x = refl

distances_are : (v q : ℤ) (ts : List Term) (lows x : List ℤ) → quotients_sum v q ts x
    ≡ distances v q ts lows x +ℤ quotients_sum v q ts lows *ℤ one
distances_are v q [] lows x = let n = distances-none v q lows x in omega (arith, ints, n)
distances_are v q (t ∷ ts) lows x =
    let f = quotient_of v q t in
    let a = total-cons (λ (t : Term). quotient_of v q t *ℤ at x t.column) t ts in
    let b = total-cons (λ (t : Term). quotient_of v q t *ℤ at lows t.column) t ts in
    let c = distances-cons v q t ts lows x in
    let i = distances_are v q ts lows x in
    let z = at x t.column -ℤ at lows t.column *ℤ one in
    let e : z +ℤ at lows t.column *ℤ one ≡ at x t.column = omega (arith, ints) in
    let d = ap (λ (y : ℤ). f *ℤ y) (sym e) ∙ *ℤ-+ℤ f z (at lows t.column *ℤ one) in
    let m = *ℤ_assoc f (at lows t.column) one in
    omega (arith, ints, a, b, c, i, d, m)

-- the rounded sum, taken q times, is at most the sum
rounded_distances : (v q : ℤ) (ts : List Term) (lows x : List ℤ) → pos 1 ≤ℤ q
    → All (λ (t : Term). pos 0 ≤ℤ (at x t.column -ℤ at lows t.column *ℤ one)) ts
    → (q *ℤ distances v q ts lows x) ≤ℤ distances v (pos 1) ts lows x
rounded_distances v q [] lows x h k =
    let n = distances-none v q lows x in
    let m = distances-none v (pos 1) lows x in
    let z : q *ℤ distances v q [] lows x ≡ pos 0 = ap (λ (y : ℤ). q *ℤ y) n ∙ *ℤ_comm q (pos 0)
    ∙ Rattle.std.proofs.Math.IntN.zero-*ℤ q in
    omega (arith, ints, m, z)
rounded_distances v q (t ∷ ts) lows x h k =
    let z = at x t.column -ℤ at lows t.column *ℤ one in
    let p : pos 0 ≤ℤ z = k 0 t (omega arith) in
    let r = one_rounded (v *ℤ t.coefficient) q z h p in
    let i = rounded_distances v q ts lows x h (λ j d l. k (suc j) d (omega (arith, l))) in
    let c = distances-cons v q t ts lows x in
    let d = distances-cons v (pos 1) t ts lows x in
    let e = ap (λ (y : ℤ). q *ℤ y) c ∙ *ℤ-+ℤ q (quotient_of v q t *ℤ z) (distances v q ts lows x) in
    let u : quotient_of v (pos 1) t *ℤ z ≡ (v *ℤ t.coefficient) *ℤ z =
    ap (λ (y : ℤ). y *ℤ z) (floor_one (v *ℤ t.coefficient)) in
    omega (arith, ints, r, i, d, e, u)

le_factor : (p q b : ℤ) → pos 1 ≤ℤ b → (b *ℤ p) ≤ℤ (b *ℤ q) → p ≤ℤ q
le_factor p q b h k = by_lt_z q p
    (λ l.
    let m = *ℤ-le b (q +ℤ pos 1) p (omega (arith, ints, h)) (omega (arith, ints, l)) in
    let d = *ℤ-+ℤ b q (pos 1) in
    let u = *ℤ_comm b (pos 1) ∙ Rattle.bl_num.proofs.Ring.*ℤ_pos1 b in
    absurd (omega (arith, ints, m, d, u, h, k)))
    (λ l. l)

test-false : (a b : ℤ) → b ≤ℤ a → int_lt a b ≡ false
test-false a b l = grind (arith, ints, nat_tests, l)

pub reach_holds : (s : Split) (x : List ℤ) (ts : List Term) (v lows wholes parts : ℤ)
    → IsSplit s x → All (λ (t : Term). pos 0 ≤ℤ (at x t.column -ℤ at s.lows t.column *ℤ one)) ts
    → lows ≡ quotients_sum v (pos 1) ts s.lows → wholes ≡ quotients_sum v (pos 1) ts s.wholes
    → parts ≡ quotients_sum v (pos 1) ts s.parts
    → IsReach s.lows x ts v ((wholes -ℤ lows) +ℤ ceil_of parts one)
reach_holds s x ts v lows wholes parts h above a b c over q k l =
    let f = floor_of over q in
    let big = distances v (pos 1) ts s.lows x in
    let small = distances v q ts s.lows x in
    let r = rounded_distances v q ts s.lows x k above in
    let e = distances_are v (pos 1) ts s.lows x in
    let d = distances_are v q ts s.lows x in
    let g = quotients_sum-split s x v (pos 1) ts h in
    let up = le-ceil_times parts one (omega (arith, ints)) in
    -- the sum is at most the reach
    let within : big ≤ℤ (((wholes -ℤ lows) +ℤ ceil_of parts one) *ℤ one) =
    omega (arith, ints, e, g, a, b, c, up) in
    let m : (((wholes -ℤ lows) +ℤ ceil_of parts one) *ℤ one) ≤ℤ ((q *ℤ f) *ℤ one) =
    omega (arith, ints, l) in
    let n : (q *ℤ f) *ℤ one ≡ q *ℤ (f *ℤ one) = *ℤ_assoc q f one in
    let t = le_factor small (f *ℤ one) q k (omega (arith, ints, r, within, m, n)) in
    let y = +ℤ-*ℤ f (quotients_sum v q ts s.lows) one in
    test-false (row_right s.lows ts v over q *ℤ one) (quotients_sum v q ts x)
    (omega (arith, ints, d, t, y))

pub above_lows : (s : Split) (x : List ℤ) (ts : List Term) → IsSplit s x → AreAboveLows s ts
    → All (λ (t : Term). pos 0 ≤ℤ at s.parts t.column) ts
    → All (λ (t : Term). pos 0 ≤ℤ (at x t.column -ℤ at s.lows t.column *ℤ one)) ts
above_lows s x ts h a p = λ k d l. let e =
    h.exact (Rattle.std.proofs.Common.get_or ts k d).column in let u = a k d l in let w =
    p k d l in omega (arith, ints, e, u, w)

pub small_divisor : (q : ℤ) (b : Bool) → q ≤ℤ pos 1 → (int_lt (pos 1) q && b) ≡ false
small_divisor q b l = ap (λ (t : Bool). t && b) (test-false (pos 1) q l)

pub out_of_reach : (q : ℤ) (b : Bool) → b ≡ false → (int_lt (pos 1) q && b) ≡ false
out_of_reach q b e = ap (λ (t : Bool). int_lt (pos 1) q && t) e ∙ by (int_lt (pos 1) q)
  where
    by : (t : Bool) → (t && false) ≡ false
    by true = refl
    by false = refl

pub is_out : (s : Split) (x : List ℤ) (ts : List Term) (v over q : ℤ) (reach : Option ℤ)
    → IsSplit s x → pos 1 ≤ℤ q → IsOutOfReach over q reach
    → IfSome reach (λ (r : ℤ). (x : List ℤ) → IsSplit s x → IsReach s.lows x ts v r)
    → row_breaks s.lows x ts v over q ≡ false
is_out s x ts v over q None h k o r = absurd o
is_out s x ts v over q (Some a) h k o r = r x h over q k o
