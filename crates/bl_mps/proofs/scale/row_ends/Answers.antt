use Rattle.std.proofs.Common.{◌^◌, ◌∙◌, ◌*◌, sym, refl, FitsSigned, rules}
use Rattle.std.specs.Int.{w128}
use Rattle.std.proofs.lemmas.Int.{to_z-of_z}
use Rattle.bl_num.specs.Decimals.{in_units}
use Rattle.bl_mps.specs.Meaning.{is_within}
use Rattle.bl_mps.proofs.Limits.{some_number}
use Rattle.bl_mps.proofs.scale.row_ends.Goals as goal

pub returns-in_ok-range-in-Some : goal.returns-in_ok-range-in-Some
returns-in_ok-range-in-Some c =
    let b = in_units c.args.right c.args.places in
    let r = in_units c.in-Some.range c.args.places in
    let p = some_number (is_within (10 ^ 24) b) b c.in_ok-right.right
    (sym c.units.ensures ∙ c.in_ok-right.was) in
    let q = some_number (is_within (2 * 10 ^ 24) r) r c.in_ok-range-in-Some.range
    (sym c.units-in-Some.ensures ∙ c.in_ok-range-in-Some.was) in
    let m : FitsSigned w128 c.in_ok-right.right = search rules in
    let n : FitsSigned w128 c.in_ok-range-in-Some.range = search rules in
    let e = to_z-of_z w128 c.in_ok-right.right m in
    let f = to_z-of_z w128 c.in_ok-range-in-Some.range n in
    c.ends_by-in-Some.ensures ∙ rw (c.in-Some.is, p.1, q.1, e, f) refl
