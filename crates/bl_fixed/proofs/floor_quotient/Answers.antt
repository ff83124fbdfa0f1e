use Rattle.std.proofs.Common.{arith, subst, sym, ℤ, pos, FitsSigned, int_rem, ◌<ℤ◌, ◌≤ℤ◌}
use Rattle.std.proofs.lemmas.Int.{ints, to_z-of_z}
use Rattle.std.specs.Int.{w128}
use Rattle.bl_fixed.proofs.Quotients.{floor-above, floor-exact, floor-above_negative}
use Rattle.bl_fixed.proofs.Quotients.{floor-exact_negative, floor_fits-above}
use Rattle.bl_fixed.proofs.Quotients.{floor_fits-above_negative}
use Rattle.bl_fixed.proofs.floor_quotient.Goals as goal
use Rattle.bl_fixed.proofs.floor_quotient.Goals.{then-b-gt0, else-b-gt0}

pub returns-then-is_above : goal.returns-then-is_above
returns-then-is_above c =
    let f = c.ranges.a in
    let g = c.ranges.b in
    let r : FitsSigned w128 c.rest_of-rest.result = record { sfits = c.rest_of-rest.type_inv } in
    let s = simp to_z-of_z at c.rest_of-rest.ensures in
    let d = simp to_z-of_z at c.in_ok-toward_zero.ensures in
    elim c.if-b-gt0.branch [
      | then-b-gt0 w ↦
          let p = simp to_z-of_z at w.if-b-gt0.true in
          let q = simp to_z-of_z at w.is_above-is in
          let pb : pos 0 <ℤ c.args.b = grind (arith, ints) in
          let pr : int_rem c.args.a c.args.b <ℤ pos 0 = grind (arith, ints) in
          let e = floor-above c.args.a c.args.b pb pr in
          let h = floor_fits-above c.args.a c.args.b f pb in
          ((λ z. omega (arith, ints), h), omega (arith, ints))
      | else-b-gt0 w ↦
          let p = simp to_z-of_z at w.if-b-gt0.false in
          let q = simp to_z-of_z at w.is_above-is in
          let pb : c.args.b <ℤ pos 0 = grind (arith, ints, d.0.0) in
          let pr : pos 0 <ℤ int_rem c.args.a c.args.b = grind (arith, ints) in
          let e = floor-above_negative c.args.a c.args.b pb pr in
          let h = floor_fits-above_negative c.args.a c.args.b f pb pr in
          ((λ z. omega (arith, ints), h), omega (arith, ints))
    ]

pub returns-else-is_above : goal.returns-else-is_above
returns-else-is_above c =
    let f = c.ranges.a in
    let g = c.ranges.b in
    let r : FitsSigned w128 c.rest_of-rest.result = record { sfits = c.rest_of-rest.type_inv } in
    let s = simp to_z-of_z at c.rest_of-rest.ensures in
    let d = simp to_z-of_z at c.in_ok-toward_zero.ensures in
    elim c.if-b-gt0.branch [
      | then-b-gt0 w ↦
          let p = simp to_z-of_z at w.if-b-gt0.true in
          let q = simp to_z-of_z at w.is_above-is in
          let pb : pos 0 <ℤ c.args.b = grind (arith, ints) in
          let pr : pos 0 ≤ℤ int_rem c.args.a c.args.b = grind (arith, ints) in
          let e = floor-exact c.args.a c.args.b pb pr in
          let h = subst (λ (z : ℤ). FitsSigned w128 z) (sym e) d.0.1 in
          ((λ z. omega (arith, ints), h), omega (arith, ints, d.0.1, d.1, e))
      | else-b-gt0 w ↦
          let p = simp to_z-of_z at w.if-b-gt0.false in
          let q = simp to_z-of_z at w.is_above-is in
          let pb : c.args.b <ℤ pos 0 = grind (arith, ints, d.0.0) in
          let pr : int_rem c.args.a c.args.b ≤ℤ pos 0 = grind (arith, ints) in
          let e = floor-exact_negative c.args.a c.args.b pb pr in
          let h = subst (λ (z : ℤ). FitsSigned w128 z) (sym e) d.0.1 in
          ((λ z. omega (arith, ints), h), omega (arith, ints, d.0.1, d.1, e))
    ]
