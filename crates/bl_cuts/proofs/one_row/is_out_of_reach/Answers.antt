use Rattle.std.proofs.Common.{◌≡◌, ◌*◌, ◌^◌, ℤ, pos, ◌*ℤ◌, ◌≤ℤ◌, arith, sym, ap, FitsSigned}
use Rattle.std.proofs.Common.{Option, subst, rules}
use Rattle.std.specs.Int.{w64, w128}
use Rattle.std.proofs.lemmas.Int.{ints, to_z-of_z}
use Rattle.std.proofs.Math.IntN.{*ℤ_comm}
use Rattle.bl_num.specs.Exact.{floor_of}
use Rattle.bl_num.proofs.Quotients.{floor-times, floor-next}
use Rattle.bl_num.proofs.Ring.{+ℤ-*ℤ, *ℤ_pos1}
use Rattle.bl_cuts.specs.OneRow.{IsOutOfReach}
use Rattle.bl_cuts.proofs.OneRow.{floor_within}
use Rattle.bl_cuts.proofs.one_row.is_out_of_reach.Goals as goal

pub returns-in-Some : goal.returns-in-Some
returns-in-Some c = λ t.
    let h = c.requires.counted in
    let z = to_z-of_z w64 c.args.q c.ranges.q in
    let y = to_z-of_z w128 c.args.over c.ranges.over in
    let fq : FitsSigned w128 c.args.q = omega (arith, ints, c.ranges.q) in
    let b : c.floor_div.result ≡ floor_of c.args.over c.args.q =
    rw (z, to_z-of_z w128 c.args.q fq, y) at c.floor_div.ensures in
    let w = floor_within (3 * 10 ^ 30) c.args.over c.args.q h c.requires.over in
    let ff : FitsSigned w128 c.floor_div.result = omega (arith, ints, w, b) in
    let low = floor-next c.args.over c.args.q h in
    let high = floor-times c.args.over c.args.q h in
    let d = +ℤ-*ℤ (floor_of c.args.over c.args.q) (pos 1) c.args.q in
    let u = *ℤ_pos1 c.args.q in
    let e = *ℤ_comm c.args.q (floor_of c.args.over c.args.q) in
    let m = ap (λ (v : ℤ). c.args.q *ℤ v) b in
    let near = c.requires.over in
    let fp : FitsSigned w128 (c.args.q *ℤ c.floor_div.result) =
    omega (arith, ints, m, e, low, high, d, u, near, c.ranges.q) in
    let fr : FitsSigned w128 c.in-Some.reach = search rules in
    let s = rw (
      z,
      to_z-of_z w128 c.args.q fq,
      to_z-of_z w128 c.floor_div.result ff,
      to_z-of_z
          w128 (c.args.q *ℤ c.floor_div.result) fp,
      to_z-of_z w128 c.in-Some.reach fr,
    ) at t in
    let r : c.in-Some.reach ≤ℤ (c.args.q *ℤ floor_of c.args.over c.args.q) =
    omega (arith, ints, s, m) in
    subst (λ (o : Option ℤ). IsOutOfReach c.args.over c.args.q o) (sym c.in-Some.is) r
