use Rattle.std.proofs.Common.{◌≡◌, ℤ, pos, ◌-ℤ◌, ◌*ℤ◌, ◌≤ℤ◌, arith, FitsSigned, ap, ◌∙◌, int_lt}
use Rattle.std.proofs.lemmas.Int.{ints, to_z-of_z}
use Rattle.std.specs.Int.{w64, w128}
use Rattle.bl_num.specs.Exact.{at}
use Rattle.bl_prop.specs.Passes.{turned}
use Rattle.bl_prop.proofs.Ranges.{loose}
use Rattle.bl_prop.proofs.pass.Pass.is_loose.Goals as goal
use Rattle.bl_prop.proofs.pass.Pass.is_loose.Goals.{After-product}

-- the size, and its product with the width
size : (c : After-product) → c.turned-size.result ≡ turned (int_lt c.args.coefficient (pos 0))
    c.args.coefficient
size c = let z = to_z-of_z w64 c.args.coefficient c.ranges.coefficient in rw z at
    c.turned-size.ensures.value

value : (c : After-product) → c.product.result
    ≡ c.turned-size.result *ℤ (at c.args.self.now.highs c.args.column -ℤ at c.args.self.now.lows
    c.args.column)
value c =
    let a = c.high.ensures in
    let b = c.low.ensures in
    let f : FitsSigned w64 c.turned-size.result = record { sfits = c.turned-size.type_inv } in
    let g : FitsSigned w64 c.high.result = record { sfits = c.high.type_inv } in
    let h : FitsSigned w64 c.low.result = record { sfits = c.low.type_inv } in
    let l = c.requires.near.near_lows c.args.column (pos 0) c.requires.column in
    let u = c.requires.near.near_highs c.args.column (pos 0)
    (omega (arith, c.requires.near.highs, c.requires.column)) in
    let k : FitsSigned w64 (c.high.result -ℤ c.low.result) = omega (arith, ints, a, b, l, u) in
    let v = simp to_z-of_z at c.product.ensures.value in
    v ∙ ap (λ (z : ℤ). c.turned-size.result *ℤ (z -ℤ c.low.result)) a
    ∙ ap (λ (z : ℤ). c.turned-size.result *ℤ (at c.args.self.now.highs c.args.column -ℤ z)) b

pub returns : goal.returns
returns c = λ t.
    let p : FitsSigned w128 c.product.result = record { sfits = c.product.type_inv } in
    let l : c.product.result ≤ℤ c.args.slack = omega (arith, ints, t) in
    loose c.args.slack c.args.column c.args.coefficient c.turned-size.result c.args.self.now
    (size c) (rw (← value c) l)
