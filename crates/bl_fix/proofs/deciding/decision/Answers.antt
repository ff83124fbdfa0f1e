use Rattle.std.proofs.Common.{rules, arith, ◌≡◌, ◌≢◌, refl, ◌<ℤ◌, ◌+ℤ◌, ◌-ℤ◌, pos, unsigned_abs}
use Rattle.std.proofs.Common.{FitsSigned, to_z, sym}
use Rattle.std.specs.Int.{w64, w128}
use Rattle.std.proofs.lemmas.Int.{ints, to_z-of_z}
use Rattle.bl_num.specs.Exact.{floor_of}
use Rattle.bl_fix.proofs.Decisions.{at_most, at_least}
use Rattle.bl_fix.proofs.deciding.decision.Goals as goal

pub returns-then-cost-gt0 : goal.returns-then-cost-gt0
returns-then-cost-gt0 c =
    let a = c.requires.low in
    let b = c.requires.high in
    let n = c.steps-steps.result in
    let s : to_z w64 n ≡ pos n = omega (arith, ints) in
    let v : FitsSigned w64 (c.args.low +ℤ pos n) = omega (arith, ints) in
    let l : (c.args.low +ℤ pos n) <ℤ c.args.high = omega (arith, ints) in
    let p : pos 0 <ℤ c.in_ok-cost.cost = omega (arith, ints) in
    let g : FitsSigned w128 c.args.gap = search rules in
    let k : FitsSigned w128 c.in_ok-cost.cost = search rules in
    let q : pos n ≡ floor_of c.args.gap (pos (unsigned_abs c.in_ok-cost.cost)) =
    simp to_z-of_z at c.steps-steps.ensures in
    rw (
      to_z-of_z w64 c.args.low c.ranges.low,
      s,
      to_z-of_z w64 (c.args.low +ℤ pos n) v,
      c.in_ok-cost.was,
    )
    (sym (at_most c.args.gap c.args.low c.args.high c.args.column c.in_ok-cost.cost (pos n) p q l))

pub returns-else-cost-gt0 : goal.returns-else-cost-gt0
returns-else-cost-gt0 c =
    let a = c.requires.low in
    let b = c.requires.high in
    let n = c.steps-steps.result in
    let s : to_z w64 n ≡ pos n = omega (arith, ints) in
    let v : FitsSigned w64 (c.args.high -ℤ pos n) = omega (arith, ints) in
    let l : c.args.low <ℤ (c.args.high -ℤ pos n) = omega (arith, ints) in
    let g : FitsSigned w128 c.args.gap = search rules in
    let k : FitsSigned w128 c.in_ok-cost.cost = search rules in
    let z : c.in_ok-cost.cost ≢ pos 0 = λ e. c.if-cost-eq0.false (rw e refl) in
    let p : c.in_ok-cost.cost <ℤ pos 0 = omega (arith, ints) in
    let q : pos n ≡ floor_of c.args.gap (pos (unsigned_abs c.in_ok-cost.cost)) =
    simp to_z-of_z at c.steps-steps.ensures in
    rw (
      to_z-of_z w64 c.args.high c.ranges.high,
      s,
      to_z-of_z w64 (c.args.high -ℤ pos n) v,
      c.in_ok-cost.was,
    )
    (sym (at_least c.args.gap c.args.low c.args.high c.args.column c.in_ok-cost.cost (pos n) p q l))
