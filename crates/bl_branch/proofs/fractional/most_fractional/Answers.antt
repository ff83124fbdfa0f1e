use Rattle.std.proofs.Common.{◌≡◌, ◌≤ℤ◌, ◌-ℤ◌, pos, arith, rules, length, FitsSigned, refl, ◌∙◌}
use Rattle.std.proofs.Common.{to_z, of_z}
use Rattle.std.specs.Int.{w64}
use Rattle.std.proofs.lemmas.Int.{ints, to_z-of_z}
use Rattle.bl_num.specs.Exact.{at}
use Rattle.bl_branch.specs.Fractions.{IsFirstNearest, entry_at, floor_within}
use Rattle.bl_branch.proofs.fractional.most_fractional.Goals as goal
use Rattle.bl_branch.proofs.fractional.most_fractional.Goals.{After-floor_between}

record At (c : After-floor_between) : Type 0 where
  nearest : IsFirstNearest c.args.desc.now.lows c.args.desc.now.highs c.args.point.now
      (length c.args.desc.now.lows) c.in-Some.column
  exact : to_z w64 (of_z w64 c.floor_between.result) ≡ floor_within
      (entry_at c.args.point.now c.in-Some.column) (at c.args.desc.now.lows c.in-Some.column)
      (at c.args.desc.now.highs c.in-Some.column -ℤ pos 1)
  above : at c.args.desc.now.lows c.in-Some.column ≤ℤ to_z w64 (of_z w64 c.floor_between.result)
  below : to_z w64 (of_z w64 c.floor_between.result) ≤ℤ
      (at c.args.desc.now.highs c.in-Some.column -ℤ pos 1)

found : (c : After-floor_between) → At c
found c =
    let k = c.in-Some.column in
    let lows = c.args.desc.now.lows in
    let highs = c.args.desc.now.highs in
    let w : IsFirstNearest lows highs c.args.point.now (length lows) k =
    rw (c.as_slice-lows.ensures, c.as_slice-highs.ensures) at c.in-Some.ensures in
    let h = c.requires.near_highs k (pos 0) (omega (arith, w.inside, c.requires.whole.highs)) in
    let f : FitsSigned w64 (at c.as_slice-lows.result.now k) = search rules in
    let g : FitsSigned w64 (at c.as_slice-highs.result.now k) = search rules in
    let z : at c.as_slice-highs.result.now k ≡ at highs k = rw c.as_slice-highs.ensures refl in
    let r : FitsSigned w64 (at c.as_slice-highs.result.now k -ℤ pos 1) =
    omega (arith, ints, h, z) in
    let e = to_z-of_z w64 c.floor_between.result (record { sfits = c.floor_between.type_inv }) in
    let s = rw (c.as_slice-lows.ensures, c.as_slice-highs.ensures) at
    (simp to_z-of_z at c.floor_between.ensures) in
    record {
      nearest = w;
      exact = e ∙ s.exact;
      above = rw e s.above;
      below = rw e s.below;
    }

pub returns-clause-fractional : goal.returns-clause-fractional
returns-clause-fractional c =
    let a = found c in
    let f = c.fraction.ensures.exact in
    record {
      fractional = λ _. record { nearest = a.nearest; floor = a.exact };
      whole = λ h. absurd (c.if-fraction-eq0.false
          (rw (f ∙ h c.in-Some.column a.nearest.inside a.nearest.wide) refl));
    }

pub returns-clause-splits : goal.returns-clause-splits
returns-clause-splits c =
    let a = found c in
    record { column = a.nearest.inside; low = a.above; high = omega (arith, ints, a.below) }
