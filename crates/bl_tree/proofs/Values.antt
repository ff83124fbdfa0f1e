-- The value of a point within the problem's bounds lies far from the ends of an `i128`.
use Rattle.std.proofs.Common.{◌≡◌, ℕ, zero, suc, ◌*◌, ◌<◌, ◌^◌, List, [], ◌∷◌, length, arith, All}
use Rattle.std.proofs.Common.{Option, Some, None, ap, sym, ◌∙◌}
use Rattle.std.specs.Prelude.{ℤ, pos, ◌*ℤ◌, ◌-ℤ◌}
use Rattle.std.proofs.lemmas.Int.{ints}
use Rattle.std.proofs.lemmas.List.{length-map}
use Rattle.std.proofs.lemmas.List.Elements.{All-get_or}
use Rattle.bl_num.specs.Exact.{at, sum_below}
use Rattle.bl_num.proofs.SumLemmas.{at-map, product_within}
use Rattle.bl_problem.specs.Program.{Program, IsProgram, IsColumn}
use Rattle.bl_problem.specs.Points.{InBox, own_lows, own_highs, costs_of, value_of}
use Rattle.bl_problem.specs.Sums.{IsWithin}
use Rattle.bl_problem.specs.declared.problem.Column.{Column}
use Rattle.bl_problem.proofs.Boxes.{box-width, box-near}
use Rattle.bl_journal.specs.States.{Found, value_if, value_less}
use Rattle.bl_journal.specs.Results.{BestGood}

sum_within : (n : ℕ) (f : ℕ → ℤ) → ((k : ℕ) → k < n → IsWithin (10 ^ 24) (f k))
    → IsWithin (n * 10 ^ 24) (sum_below n f)
sum_within zero f h = omega arith
sum_within (suc n) f h =
    let i : IsWithin (n * 10 ^ 24) (sum_below n f) =
    sum_within n f (λ k b. h k (omega (arith, b))) in
    let e : IsWithin (10 ^ 24) (f n) = h n (omega arith) in
    omega (arith, ints, i, e)

cost_near : (cs : List Column) (k : ℕ) → All IsColumn cs → k < length cs
    → IsWithin (10 ^ 15) (at (costs_of cs) k)
cost_near [] k a h = absurd (omega (arith, h))
cost_near (c ∷ cs) k a h =
    let e = at-map (λ (d : Column). d.cost) (c ∷ cs) k c h in
    let g = All-get_or IsColumn (c ∷ cs) k c h a in
    omega (arith, ints, e, g.cost)

pub value_near : (p : Program) (x : List ℤ) → IsProgram p → InBox (own_lows p) (own_highs p) x
    → IsWithin (10 ^ 28) (value_of p x)
value_near p x w b =
    let sum = sum_within (length p.columns) (λ j. at (costs_of p.columns) j *ℤ at x j) each in
    let few = w.few_columns in
    let offset = w.offset in
    omega (arith, ints, sum, few, offset)
  where
    wide : length x ≡ length p.columns
    wide = sym (box-width (own_lows p) (own_highs p) x b).lows
        ∙ length-map p.columns (λ (d : Column). d.low)

    each : (k : ℕ) → k < length p.columns → IsWithin (10 ^ 24) (at (costs_of p.columns) k *ℤ at x k)
    each k h =
        let near = All-get_or (IsWithin (10 ^ 9)) x k (pos 0) (omega (arith, h, wide))
        (box-near p.columns x w.columns b) in
        product_within (at (costs_of p.columns) k) (at x k) (10 ^ 15) (10 ^ 9)
        (cost_near p.columns k w.columns h) near

-- so does the best value
pub best_near : (p : Program) (best : Option Found) (value : ℤ) → IsProgram p → BestGood p best
    → value_if best ≡ Some value → IsWithin (10 ^ 28) value
best_near p None value w g e = cc
best_near p (Some f) value w g e =
    let near : IsWithin (10 ^ 28) (value_of p f.point) = value_near p f.point w g.feasible.box in
    let is : f.value ≡ value_of p f.point = g.value in
    let same : f.value ≡ value = cc in
    omega (arith, ints, near, is, same)

-- the cutoff of a best value
pub cutoff_is : (gap : ℤ) (best : Option Found) (value : ℤ) → value_if best ≡ Some value
    → value_less gap best ≡ Some (value -ℤ gap)
cutoff_is gap None value e = cc
cutoff_is gap (Some f) value e = let same : f.value ≡ value =
    cc in ap (λ (z : ℤ). Some (z -ℤ gap)) same
