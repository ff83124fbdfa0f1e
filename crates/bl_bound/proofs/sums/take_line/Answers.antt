use Rattle.std.proofs.Common.{◌≡◌, ℤ, pos, ◌*ℤ◌, neg_ℤ, List, length, Option, Some, refl, sym}
use Rattle.std.proofs.Common.{◌∙◌, ap, arith, rules}
use Rattle.std.specs.Int.{w64}
use Rattle.std.proofs.lemmas.Int.{ints, to_z-of_z}
use Rattle.bl_num.specs.Checked.{checked_add}
use Rattle.bl_problem.specs.Rows.{coefficient_of}
use Rattle.bl_bound.specs.Bounds.{sum_at}
use Rattle.bl_bound.proofs.Columns.{taken-nothing, taken_terms-at}
use Rattle.bl_bound.proofs.sums.take_line.Goals as goal

pub returns-then-y-eq0-clause-sums : goal.returns-then-y-eq0-clause-sums
returns-then-y-eq0-clause-sums c = λ j l.
    let g = c.ranges.y in
    let e : c.args.y ≡ pos 0 = first_of (search rules, omega (arith, ints)) in
    let a = coefficient_of c.args.terms.now j in
    sym (ap (λ (v : ℤ). checked_add (sum_at c.args.sums.now j) (Some (neg_ℤ (v *ℤ a)))) e
    ∙ taken-nothing a (sum_at c.args.sums.now j) (c.requires.settled j l))

pub returns-clause-sums : goal.returns-clause-sums
returns-clause-sums c = λ j l.
    let e = rw (to_z-of_z w64 c.args.y c.ranges.y) at c.take_terms.ensures in
    ap (λ (sums : List (Option ℤ)). sum_at sums j) e
    ∙ taken_terms-at c.args.y c.args.terms.now (length c.args.sums.now) c.args.sums.now j
    c.requires.terms refl (c.requires.settled j l)
