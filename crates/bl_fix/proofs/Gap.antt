-- How far a bound's sum is below the cutoff, and the law of fixing.
use Rattle.std.proofs.Common.{◌≡◌, ℕ, ◌<◌, ℤ, pos, ◌-ℤ◌, ◌*ℤ◌, ◌≤ℤ◌, ◌<ℤ◌, arith, List, length}
use Rattle.std.proofs.Common.{Option, Some, None, option_map, IsSomeAnd, refl, sym, ◌∙◌, ap}
use Rattle.std.proofs.lemmas.Int.{ints}
use Rattle.std.proofs.Math.IntN.{*ℤ_comm}
use Rattle.bl_num.specs.Exact.{at, ceil_of}
use Rattle.bl_num.specs.Checked.{i128_of, checked_mul}
use Rattle.bl_num.proofs.Ring.{*ℤ-le}
use Rattle.bl_num.proofs.Quotients.{le-ceil_times}
use Rattle.bl_num.proofs.CheckedLemmas.{i128_of-some}
use Rattle.bl_problem.specs.Program.{Program, IsProgram}
use Rattle.bl_problem.specs.Points.{costs_of, value_of}
use Rattle.bl_problem.specs.Decisions.{MeetsAll}
use Rattle.bl_problem.specs.declared.cut.Cut.{Cut}
use Rattle.bl_desc.specs.declared.desc.Desc.{Desc}
use Rattle.bl_bound.specs.Lines.{lines_of}
use Rattle.bl_bound.specs.Bounds.{sum_at, reduced_cost, multiplier_sum_of}
use Rattle.bl_bound.specs.Descriptions.{Describes, IsLeft}
use Rattle.bl_bound.specs.Reduced.{Reduced, IsReduced, bound_by}
use Rattle.bl_fix.specs.Gaps.{decisions_below, checked_less, gap_of, fixed_by, fixed_of}
use Rattle.bl_fix.specs.Gaps.{fixed_of_reduced}
use Rattle.bl_fix.proofs.Law.{fixes}
use Rattle.bl_fix.proofs.Decisions.{decisions-same, decisions-met}

less-some : (o : Option ℤ) (b v : ℤ) → checked_less o b ≡ Some v → (a : ℤ) × (o ≡ Some a)
    × (v ≡ a -ℤ b)
less-some None b v e = absurd cc
less-some (Some a) b v e = (a, refl, sym (i128_of-some (a -ℤ b) v e))

times-some : (d : ℤ) (o : Option ℤ) (v : ℤ) → checked_mul (Some d) o ≡ Some v → (a : ℤ)
    × (o ≡ Some a) × (v ≡ d *ℤ a)
times-some d None v e = absurd cc
times-some d (Some a) v e = (a, refl, sym (i128_of-some (d *ℤ a) v e))

-- the gap is the exact one
pub gap-exact : (d cutoff sum g : ℤ) → gap_of d cutoff sum ≡ Some g → g
    ≡ d *ℤ (cutoff -ℤ pos 1) -ℤ sum
gap-exact d cutoff sum g e =
    let a = less-some (checked_mul (Some d) (i128_of (cutoff -ℤ pos 1))) sum g e in
    let b = times-some d (i128_of (cutoff -ℤ pos 1)) a.0 a.1 in
    let c = i128_of-some (cutoff -ℤ pos 1) b.0 b.1 in
    a.2 ∙ ap (λ (z : ℤ). z -ℤ sum) (b.2 ∙ ap (λ (z : ℤ). d *ℤ z) (sym c))

-- a bound below the cutoff leaves a gap that is not negative
pub gap-positive : (d cutoff sum : ℤ) → pos 1 ≤ℤ d → ceil_of sum d <ℤ cutoff
    → pos 0 ≤ℤ (d *ℤ (cutoff -ℤ pos 1) -ℤ sum)
gap-positive d cutoff sum h b =
    let t = le-ceil_times sum d h in
    let c = *ℤ_comm (ceil_of sum d) d in
    let m = *ℤ-le d (ceil_of sum d) (cutoff -ℤ pos 1) (omega (arith, ints, h))
    (omega (arith, ints, b)) in
    omega (arith, ints, t, c, m)

-- a point below the cutoff has at most the greatest value below it
below-times : (d v cutoff : ℤ) → pos 1 ≤ℤ d → v <ℤ cutoff → (d *ℤ v) ≤ℤ (d *ℤ (cutoff -ℤ pos 1))
below-times d v cutoff h l =
    *ℤ-le d v (cutoff -ℤ pos 1) (omega (arith, ints, h)) (omega (arith, ints, l))

-- the law: a point that is left and is below the cutoff meets each decision
pub fixed-met : (p : Program) (desc : Desc Cut) (y x : List ℤ) (d sum g cutoff : ℤ) → IsProgram p
    → Describes p desc → pos 1 ≤ℤ d → multiplier_sum_of p desc y d ≡ Some sum →
    gap_of d cutoff sum ≡ Some g → IsLeft p desc x → value_of p x <ℤ cutoff →
    MeetsAll x (decisions_below (length p.columns) g
    (λ j. reduced_cost (d *ℤ at (costs_of p.columns) j) (lines_of p.rows desc.cuts) y j)
    desc.lows desc.highs)
fixed-met p desc y x d sum g cutoff h s c e k l v =
    decisions-met (length p.columns) g (λ j. reduced_cost (d *ℤ at (costs_of p.columns) j)
    (lines_of p.rows desc.cuts) y j) desc.lows desc.highs x
    (λ j m. rw (gap-exact d cutoff sum g k)
    (fixes p desc y x d sum (d *ℤ (cutoff -ℤ pos 1)) j h s l m e
    (below-times d (value_of p x) cutoff c v)))

-- ---- of what multipliers made
pub gap-at : (r : Reduced) (cutoff sum g : ℤ) → pos 1 ≤ℤ r.denominator → r.sum ≡ Some sum
    → gap_of r.denominator cutoff sum ≡ Some g → IsSomeAnd (bound_by r) (λ b. b <ℤ cutoff)
    → pos 0 ≤ℤ g
gap-at r cutoff sum g h e k b =
    let l : ceil_of sum r.denominator <ℤ cutoff = rw e at b in
    rw (gap-exact r.denominator cutoff sum g k) (gap-positive r.denominator cutoff sum h l)

pub decided : (r : Reduced) (desc : Desc Cut) (cutoff sum g : ℤ) → r.sum ≡ Some sum
    → gap_of r.denominator cutoff sum ≡ Some g →
    fixed_of_reduced r desc cutoff
    ≡ Some (decisions_below (length r.costs) g (sum_at r.costs) desc.lows desc.highs)
decided r desc cutoff sum g e k = rw (e, k) refl

pub undecided : (r : Reduced) (desc : Desc Cut) (cutoff sum : ℤ) → r.sum ≡ Some sum
    → gap_of r.denominator cutoff sum ≡ None → fixed_of_reduced r desc cutoff ≡ None
undecided r desc cutoff sum e k = rw (e, k) refl

mapped-same : (n : ℕ) (f g : ℕ → Option ℤ) (lows highs : List ℤ) (o : Option ℤ)
    → ((j : ℕ) → j < n → f j ≡ g j) →
    option_map (λ gap. decisions_below n gap f lows highs) o
    ≡ option_map (λ gap. decisions_below n gap g lows highs) o
mapped-same n f g lows highs None h = refl
mapped-same n f g lows highs (Some gap) h = ap Some (decisions-same n gap f g lows highs h)

fixed-same : (o : Option ℤ) (d cutoff : ℤ) (n : ℕ) (f g : ℕ → Option ℤ) (lows highs : List ℤ)
    → ((j : ℕ) → j < n → f j ≡ g j) → fixed_by o d cutoff n f lows highs
    ≡ fixed_by o d cutoff n g lows highs
fixed-same None d cutoff n f g lows highs h = refl
fixed-same (Some sum) d cutoff n f g lows highs h =
    mapped-same n f g lows highs (gap_of d cutoff sum) h

pub stated : (p : Program) (desc : Desc Cut) (y : List ℤ) (r : Reduced) (cutoff : ℤ)
    → IsReduced p desc y r → fixed_of_reduced r desc cutoff ≡ fixed_of p desc y r.denominator cutoff
stated p desc y r cutoff h =
    let f : ℕ → Option ℤ = λ j. reduced_cost (r.denominator *ℤ at (costs_of p.columns) j)
    (lines_of p.rows desc.cuts) y j in
    ap (λ (o : Option ℤ). fixed_by o r.denominator cutoff (length r.costs) (sum_at r.costs)
    desc.lows desc.highs) h.sum
    ∙ ap (λ (n : ℕ). fixed_by (multiplier_sum_of p desc y r.denominator) r.denominator cutoff n
    (sum_at r.costs) desc.lows desc.highs) h.costs.width
    ∙ fixed-same (multiplier_sum_of p desc y r.denominator) r.denominator cutoff
    (length p.columns) (sum_at r.costs) f desc.lows desc.highs h.costs.each

pub met : (p : Program) (desc : Desc Cut) (y x : List ℤ) (r : Reduced) (sum g cutoff : ℤ)
    → IsProgram p → Describes p desc → IsReduced p desc y r → r.sum ≡ Some sum →
    gap_of r.denominator cutoff sum ≡ Some g → IsLeft p desc x → value_of p x <ℤ cutoff
    → MeetsAll x (decisions_below (length r.costs) g (sum_at r.costs) desc.lows desc.highs)
met p desc y x r sum g cutoff h s i e k l v =
    let f : ℕ → Option ℤ = λ j. reduced_cost (r.denominator *ℤ at (costs_of p.columns) j)
    (lines_of p.rows desc.cuts) y j in
    let m = fixed-met p desc y x r.denominator sum g cutoff h s i.counted (sym i.sum ∙ e) k l v in
    rw (
      i.costs.width,
      decisions-same (length p.columns) g (sum_at r.costs) f desc.lows desc.highs
          i.costs.each,
    ) m
