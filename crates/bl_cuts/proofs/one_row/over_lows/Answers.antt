use Rattle.std.proofs.Common.{◌^◌, ◌*ℤ◌, ◌-ℤ◌, ℤ, arith, ap, FitsSigned}
use Rattle.std.specs.Int.{w64, w128}
use Rattle.std.proofs.lemmas.Int.{ints, to_z-of_z}
use Rattle.bl_num.proofs.SumLemmas.{product_within}
use Rattle.bl_cuts.proofs.one_row.over_lows.Goals as goal

pub returns-clause-exact : goal.returns-clause-exact
returns-clause-exact c =
    let z = to_z-of_z w64 c.args.weight c.ranges.weight in
    let e = rw (z, c.as_slice.ensures) at c.quotients_sum.ensures.exact in
    let near = c.quotients_sum.ensures.near in
    let unit = c.requires.weight in
    let p = product_within c.args.weight c.args.end 1 (10 ^ 24) c.requires.weight c.requires.end in
    let f : FitsSigned w128 c.args.weight = omega (arith, ints, unit) in
    let k : FitsSigned w128 (c.args.weight *ℤ c.args.end) = omega (arith, ints, p) in
    let r : FitsSigned w128 c.quotients_sum.result = omega (arith, ints, near) in
    let g : FitsSigned w128 (c.args.weight *ℤ c.args.end -ℤ c.quotients_sum.result) =
    omega (arith, ints, p, near) in
    rw (
      z,
      to_z-of_z w128 c.args.weight f,
      to_z-of_z w128 c.args.end c.ranges.end,
      to_z-of_z w128
          (c.args.weight *ℤ c.args.end) k,
      to_z-of_z w128 c.quotients_sum.result r,
      to_z-of_z w128
          (c.args.weight *ℤ c.args.end -ℤ c.quotients_sum.result) g,
    )
    (ap (λ (s : ℤ). c.args.weight *ℤ c.args.end -ℤ s) e)

pub returns-clause-near : goal.returns-clause-near
returns-clause-near c =
    let z = to_z-of_z w64 c.args.weight c.ranges.weight in
    let near = c.quotients_sum.ensures.near in
    let unit = c.requires.weight in
    let p = product_within c.args.weight c.args.end 1 (10 ^ 24) c.requires.weight c.requires.end in
    let f : FitsSigned w128 c.args.weight = omega (arith, ints, unit) in
    let k : FitsSigned w128 (c.args.weight *ℤ c.args.end) = omega (arith, ints, p) in
    let r : FitsSigned w128 c.quotients_sum.result = omega (arith, ints, near) in
    let g : FitsSigned w128 (c.args.weight *ℤ c.args.end -ℤ c.quotients_sum.result) =
    omega (arith, ints, p, near) in
    rw (
      z,
      to_z-of_z w128 c.args.weight f,
      to_z-of_z w128 c.args.end c.ranges.end,
      to_z-of_z w128
          (c.args.weight *ℤ c.args.end) k,
      to_z-of_z w128 c.quotients_sum.result r,
      to_z-of_z w128
          (c.args.weight *ℤ c.args.end -ℤ c.quotients_sum.result) g,
    )
    (omega (arith, ints, p, near))

pub overflow_sub-result : goal.overflow_sub-result
overflow_sub-result c =
    let z = to_z-of_z w64 c.args.weight c.ranges.weight in
    let near = c.quotients_sum.ensures.near in
    let unit = c.requires.weight in
    let p = product_within c.args.weight c.args.end 1 (10 ^ 24) c.requires.weight c.requires.end in
    let f : FitsSigned w128 c.args.weight = omega (arith, ints, unit) in
    let k : FitsSigned w128 (c.args.weight *ℤ c.args.end) = omega (arith, ints, p) in
    let r : FitsSigned w128 c.quotients_sum.result = omega (arith, ints, near) in
    let g : FitsSigned w128 (c.args.weight *ℤ c.args.end -ℤ c.quotients_sum.result) =
    omega (arith, ints, p, near) in
    rw (
      z,
      to_z-of_z w128 c.args.weight f,
      to_z-of_z w128 c.args.end c.ranges.end,
      to_z-of_z w128
          (c.args.weight *ℤ c.args.end) k,
      to_z-of_z w128 c.quotients_sum.result r,
    ) g
