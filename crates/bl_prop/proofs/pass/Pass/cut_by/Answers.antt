use Rattle.std.proofs.Common.{◌+ℤ◌, ℤ, arith, FitsSigned, ap, ◌∙◌}
use Rattle.std.proofs.lemmas.Int.{ints, to_z-of_z}
use Rattle.std.specs.Int.{w64, w128}
use Rattle.bl_num.specs.Exact.{floor_of}
use Rattle.bl_prop.proofs.Ranges.{cut_by-pos}
use Rattle.bl_prop.proofs.pass.Pass.cut_by.Goals as goal

pub returns-then-coefficient-gt0 : goal.returns-then-coefficient-gt0
returns-then-coefficient-gt0 c =
    let w = c.ranges.slack in
    let v = c.ranges.coefficient in
    let f : FitsSigned w64 c.low-low.result = record { sfits = c.low-low.type_inv } in
    let g : FitsSigned w128 c.most.result = record { sfits = c.most.type_inv } in
    let e = cut_by-pos c.args.slack c.args.column c.args.coefficient c.args.self.now
    (omega (arith, ints)) in
    let a = simp to_z-of_z at c.most.ensures.value in
    let m = a ∙ ap (λ (z : ℤ). z +ℤ floor_of c.args.slack c.args.coefficient) c.low-low.ensures in
    rw (e, ← m) (simp to_z-of_z at c.lower_high.ensures)
