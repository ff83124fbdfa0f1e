use Rattle.std.proofs.Common.{◌≡◌, ℤ, pos, ◌+ℤ◌, ap, ◌∙◌, rules, FitsSigned, to_z, of_z}
use Rattle.std.specs.Int.{w64}
use Rattle.std.proofs.lemmas.Int.{to_z-of_z}
use Rattle.bl_problem.specs.declared.cut.Cut.{Cut}
use Rattle.bl_desc.specs.declared.change.Change.{Change}
use Rattle.bl_desc.specs.declared.desc.Piece.TheVariants.{Relative}
use Rattle.bl_node.proofs.split.right_piece.Goals as goal

pub returns-in_ok-new-in-Relative : goal.returns-in_ok-new-in-Relative
returns-in_ok-new-in-Relative c =
    let at = c.args.place.at in
    let fits : FitsSigned w64 at = search rules in
    let fits_next : FitsSigned w64 (at +ℤ pos 1) = search rules in
    let next : to_z w64 (of_z w64 (to_z w64 (of_z w64 at) +ℤ pos 1)) ≡ at +ℤ pos 1 =
    ap (λ (z : ℤ). to_z w64 (of_z w64 (z +ℤ pos 1))) (to_z-of_z w64 at fits)
    ∙ to_z-of_z w64 (at +ℤ pos 1) fits_next in
    let canonical = c.in_ok-change-in-Relative.ensures.canonical in
    let is = rw next at (canonical c.args.parent.now c.args.desc c.requires.common
    c.requires.column (rw next c.requires.other)) in
    rw c.in-Relative.is (ap (λ (k : Change Cut). Relative k) (c.in_ok-new-in-Relative.ensures ∙ is))
