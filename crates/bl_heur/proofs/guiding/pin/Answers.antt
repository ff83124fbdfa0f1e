use Rattle.std.proofs.Common.{arith, rules, FitsSigned, ◌^◌}
use Rattle.std.specs.Int.{w64}
use Rattle.std.proofs.lemmas.Int.{ints, to_z-of_z}
use Rattle.bl_problem.specs.Sums.{IsWithin}
use Rattle.bl_heur.proofs.Pinned.{pinned-describes}
use Rattle.bl_heur.proofs.guiding.pin.Goals as goal

pub returns-then-value-le-FARTHEST : goal.returns-then-value-le-FARTHEST
returns-then-value-le-FARTHEST c = λ p h.
    let fits : FitsSigned w64 c.args.value = search rules in
    let same = to_z-of_z w64 c.args.value fits in
    let above = rw same at c.if-value.true in
    let below = rw same at c.if-value-le-FARTHEST.true in
    let within : IsWithin (10 ^ 9) c.args.value = grind (arith, ints, above, below) in
    rw (c.narrow.ensures, same) (pinned-describes p c.args.desc.now c.args.column c.args.value
    (omega (arith, c.if-column-width.false, c.len-width.ensures)) within h)
