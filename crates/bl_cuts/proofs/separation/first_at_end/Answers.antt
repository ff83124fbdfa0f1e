use Rattle.std.proofs.Common.{◌≡◌, ℤ, Option, sym, ◌∙◌, ap, arith, FitsSigned, rules}
use Rattle.std.specs.Int.{w64, w128}
use Rattle.std.proofs.lemmas.Int.{ints, to_z-of_z}
use Rattle.bl_cuts.proofs.Separating.{if_ok}
use Rattle.bl_cuts.specs.OneRow.{row_breaks, over_lows, first_by_over}
use Rattle.bl_cuts.specs.Separations.{first_size}
use Rattle.bl_cuts.specs.declared.separation.Candidate.{Candidate}
use Rattle.bl_cuts.proofs.separation.first_at_end.Goals as goal

pub returns-in-Some-clause-exact : goal.returns-in-Some-clause-exact
returns-in-Some-clause-exact c =
    if_ok _ _ c.first_size.result
    (λ first g x h.
    let z = to_z-of_z w64 c.args.weight c.ranges.weight in
    let near = c.over_lows-over.ensures.near in
    let f : FitsSigned w128 c.over_lows-over.result = omega (arith, ints, near) in
    let e : first ≡ first_size (λ (k : Candidate). row_breaks c.args.split.now.lows x
    c.args.terms.now c.args.weight c.over_lows-over.result k.q) c.args.row c.args.weight
    c.args.terms.now =
    rw (z, to_z-of_z w128 c.over_lows-over.result f) at (g x h) in
    let g : FitsSigned w128 c.in-Some.end = search rules in
    let o : c.over_lows-over.result ≡ over_lows c.args.split.now.lows c.args.terms.now
    c.args.weight c.in-Some.end =
    rw (z, to_z-of_z w128 c.in-Some.end g) at c.over_lows-over.ensures.exact in
    e ∙ ap (λ (v : ℤ). first_size (λ (k : Candidate). row_breaks c.args.split.now.lows x
    c.args.terms.now c.args.weight v k.q) c.args.row c.args.weight c.args.terms.now) o
    ∙ ap (λ (y : Option ℤ). first_by_over c.args.split.now.lows x c.args.row c.args.weight y
    c.args.terms.now) (sym c.in-Some.is))
    c.first_size.ensures.exact
