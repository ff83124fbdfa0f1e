-- Weak duality, over a problem and a description.
use Rattle.std.proofs.Common.{◌≡◌, ℤ, pos, ◌*ℤ◌, ◌≤ℤ◌, List, length, map, All, Option, Some, None}
use Rattle.std.proofs.Common.{option_map, IfSome, sym, ◌∙◌, arith}
use Rattle.std.proofs.lemmas.Int.{ints}
use Rattle.std.proofs.Math.IntN.{*ℤ_comm}
use Rattle.std.proofs.lemmas.List.{length-map}
use Rattle.std.proofs.lemmas.List.Elements.{All-append, All-map}
use Rattle.bl_num.specs.Exact.{ceil_of}
use Rattle.bl_num.proofs.Quotients.{ceil_le}
use Rattle.bl_problem.specs.Rows.{AreTerms}
use Rattle.bl_problem.specs.Program.{Program, IsProgram}
use Rattle.bl_problem.specs.Points.{costs_of, value_of}
use Rattle.bl_problem.specs.declared.cut.Cut.{Cut}
use Rattle.bl_problem.specs.declared.problem.Column.{Column}
use Rattle.bl_problem.proofs.Boxes.{box-width}
use Rattle.bl_desc.specs.declared.desc.Desc.{Desc}
use Rattle.bl_bound.specs.Lines.{lines_of, line_of_row, line_of_cut, MeetsLine}
use Rattle.bl_bound.specs.Bounds.{multiplier_sum_of}
use Rattle.bl_bound.specs.Descriptions.{Describes, IsLeft}
use Rattle.bl_bound.proofs.Duality.{bound_sum-le}

pub lines_meet : (p : Program) (desc : Desc Cut) (x : List ℤ) → IsLeft p desc x
    → All (MeetsLine x) (lines_of p.rows desc.cuts)
lines_meet p desc x h = All-append (MeetsLine x) (map line_of_row p.rows)
    (map line_of_cut desc.cuts)
    (All-map (MeetsLine x) line_of_row p.rows (λ k d l. let r =
    h.feasible.rows k d l in record { low = r.low; high = r.high }))
    (All-map (MeetsLine x) line_of_cut desc.cuts
    (λ k d l. record { low = tt; high = h.cuts k d l }))

pub lines_terms : (p : Program) (desc : Desc Cut) → IsProgram p → Describes p desc
    → All (λ line. AreTerms (length p.columns) line.terms) (lines_of p.rows desc.cuts)
lines_terms p desc h s = All-append (λ line. AreTerms (length p.columns) line.terms)
    (map line_of_row p.rows) (map line_of_cut desc.cuts)
    (All-map (λ line. AreTerms (length p.columns) line.terms) line_of_row p.rows
    (λ k d l. (h.rows k d l).terms))
    (All-map (λ line. AreTerms (length p.columns) line.terms) line_of_cut desc.cuts
    (λ k d l. (s.cuts k d l).terms))

pub multiplier_sum_of-le : (p : Program) (desc : Desc Cut) (y x : List ℤ) (d s : ℤ) → IsProgram p
    → Describes p desc → IsLeft p desc x →
    multiplier_sum_of p desc y d ≡ Some s → s ≤ℤ (d *ℤ value_of p x)
multiplier_sum_of-le p desc y x d s h u f e =
    let n = length-map p.columns (λ (c : Column). c.cost) in
    let w = box-width desc.lows desc.highs x f.box in
    let t = bound_sum-le p.offset (costs_of p.columns) desc.lows desc.highs
    (lines_of p.rows desc.cuts) y x d s (sym w.lows ∙ u.lows ∙ sym n) f.box
    (rw n (lines_terms p desc h u)) (lines_meet p desc x f) e in
    rw n at t

-- the same of what a call gave
pub below-if_some : (p : Program) (desc : Desc Cut) (y : List ℤ) (d : ℤ) (o : Option ℤ)
    → IsProgram p → Describes p desc → o ≡ multiplier_sum_of p desc y d →
    IfSome o (λ s. (x : List ℤ) → IsLeft p desc x → s ≤ℤ (d *ℤ value_of p x))
below-if_some p desc y d None h u e = tt
below-if_some p desc y d (Some s) h u e = λ x f. multiplier_sum_of-le p desc y x d s h u f (sym e)

-- divided by d and rounded up
pub bound-below : (p : Program) (desc : Desc Cut) (d : ℤ) (o : Option ℤ) → pos 1 ≤ℤ d
    → IfSome o (λ s. (x : List ℤ) → IsLeft p desc x → s ≤ℤ (d *ℤ value_of p x)) →
    IfSome (option_map (λ s. ceil_of s d) o) (λ b. (x : List ℤ) → IsLeft p desc x
    → b ≤ℤ value_of p x)
bound-below p desc d None h b = tt
bound-below p desc d (Some s) h b = λ x f.
    let e = *ℤ_comm d (value_of p x) in
    let l = b x f in
    ceil_le (value_of p x) s d h (omega (arith, ints, e, l))
