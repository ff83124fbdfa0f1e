use Rattle.std.proofs.Common.{◌∙◌, ℤ, pos, ◌<ℤ◌, ◌≤ℤ◌, sym, ap, subst, FitsSigned, arith, rules}
use Rattle.std.specs.Int.{w128}
use Rattle.std.proofs.lemmas.Int.{ints, to_z-of_z}
use Rattle.bl_factor.proofs.Quotients.{quotient-known, signed-up, signed-plain, signed-down}
use Rattle.bl_factor.proofs.Quotients.{signed-under}
use Rattle.bl_factor.proofs.division.signed.Goals as goal

pub returns-then-pivot-lt0 : goal.returns-then-pivot-lt0
returns-then-pivot-lt0 c =
    let x = c.args.number in
    let p = c.args.pivot in
    let q = c.args.division.quotient in
    let r = c.args.division.rest in
    let d = c.requires.divides in
    let h = subst (λ (z : ℤ). z <ℤ pos 0) (to_z-of_z w128 c.args.number.raw
    (let f : FitsSigned w128 c.args.number.raw = search rules in f))
    (omega (arith, ints, c.if-number-lt0.true)) in
    let k = subst (λ (z : ℤ). z <ℤ pos 0) (to_z-of_z w128 c.args.pivot.raw
    (let f : FitsSigned w128 c.args.pivot.raw = search rules in f))
    (omega (arith, ints, c.if-pivot-lt0.true)) in
    sym (quotient-known x p q r c.requires.filled d.small d.quotient d.whole d.rest
    ∙ ap (λ (z : ℤ). record { raw = z }) (signed-up x.raw p.raw q r h k ∙ sym c.upward.ensures))

pub returns-else-pivot-lt0 : goal.returns-else-pivot-lt0
returns-else-pivot-lt0 c =
    let x = c.args.number in
    let p = c.args.pivot in
    let q = c.args.division.quotient in
    let r = c.args.division.rest in
    let d = c.requires.divides in
    let h = subst (λ (z : ℤ). z <ℤ pos 0) (to_z-of_z w128 c.args.number.raw
    (let f : FitsSigned w128 c.args.number.raw = search rules in f))
    (omega (arith, ints, c.if-number-lt0.true)) in
    let k = subst (λ (z : ℤ). pos 0 ≤ℤ z) (to_z-of_z w128 c.args.pivot.raw
    (let f : FitsSigned w128 c.args.pivot.raw = search rules in f))
    (omega (arith, ints, c.if-pivot-lt0.false)) in
    sym (quotient-known x p q r c.requires.filled d.small d.quotient d.whole d.rest
    ∙ ap (λ (z : ℤ). record { raw = z }) (signed-down x.raw p.raw q r h k ∙ sym c.downward.ensures))

pub returns-then-pivot-lt0-2 : goal.returns-then-pivot-lt0-2
returns-then-pivot-lt0-2 c =
    let x = c.args.number in
    let p = c.args.pivot in
    let q = c.args.division.quotient in
    let r = c.args.division.rest in
    let d = c.requires.divides in
    let h = subst (λ (z : ℤ). pos 0 ≤ℤ z) (to_z-of_z w128 c.args.number.raw
    (let f : FitsSigned w128 c.args.number.raw = search rules in f))
    (omega (arith, ints, c.if-number-lt0.false)) in
    let k = subst (λ (z : ℤ). z <ℤ pos 0) (to_z-of_z w128 c.args.pivot.raw
    (let f : FitsSigned w128 c.args.pivot.raw = search rules in f))
    (omega (arith, ints, c.if-pivot-lt0-2.true)) in
    sym (quotient-known x p q r c.requires.filled d.small d.quotient d.whole d.rest
    ∙ ap (λ (z : ℤ). record { raw = z }) (signed-under x.raw p.raw q r h k
    ∙ sym c.downward-then-pivot-lt0-2.ensures))

pub returns-else-pivot-lt0-2 : goal.returns-else-pivot-lt0-2
returns-else-pivot-lt0-2 c =
    let x = c.args.number in
    let p = c.args.pivot in
    let q = c.args.division.quotient in
    let r = c.args.division.rest in
    let d = c.requires.divides in
    let h = subst (λ (z : ℤ). pos 0 ≤ℤ z) (to_z-of_z w128 c.args.number.raw
    (let f : FitsSigned w128 c.args.number.raw = search rules in f))
    (omega (arith, ints, c.if-number-lt0.false)) in
    let k = subst (λ (z : ℤ). pos 0 ≤ℤ z) (to_z-of_z w128 c.args.pivot.raw
    (let f : FitsSigned w128 c.args.pivot.raw = search rules in f))
    (omega (arith, ints, c.if-pivot-lt0-2.false)) in
    sym (quotient-known x p q r c.requires.filled d.small d.quotient d.whole d.rest
    ∙ ap (λ (z : ℤ). record { raw = z }) (signed-plain x.raw p.raw q r h k
    ∙ sym c.upward-else-pivot-lt0-2.ensures))
