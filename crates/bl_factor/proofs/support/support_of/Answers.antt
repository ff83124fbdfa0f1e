use Rattle.std.proofs.Common.{◌≡◌, ◌+◌, ◌-◌, ◌≤◌, refl, set, length, take, ℕ, Bool, true, false}
use Rattle.std.proofs.Common.{arith, subst, nat_eq, not, ◌&&◌, of_z}
use mir.Val.{bool_byte}
use Rattle.std.specs.Int.{w128}
use Rattle.std.specs.Prelude.{slice_index_or}
use Rattle.bl_factor.specs.Vectors.{at}
use Rattle.bl_factor.specs.Support.{IsRising}
use Rattle.bl_factor.proofs.SupportLemmas.{IsRising-step, others_count}
use Rattle.bl_factor.proofs.support.support_of.Goals as goal

pub loop-place-init : goal.loop-place-init
loop-place-init c = record {
  filled = omega arith;
  count = omega arith;
  flagged = tt;
  others = tt;
}

pub loop-place-preserved : goal.loop-place-preserved
loop-place-preserved c =
    let i = c.loop-place.place in
    let filled = c.loop-place.filled in
    let count = c.loop-place.count in
    let z : Bool = nat_eq (of_z w128 (at c.args.column.now i).raw) 0 in
    let has = slice_index_or c.args.flags.now i false in
    let v = c.loop-place.invariant in
    let s = others_count z has filled count c.from-filled.result c.from-count.result v.count
    c.from-filled.ensures c.from-count.ensures in
    let a = IsRising-step (not z && has) i count c.from-count.result c.loop-place.flagged
    c.from-count.ensures (omega (arith, v.count, v.filled))
    (omega (arith, c.loop-place-test.true, c.loop-place.auto.flagged, c.requires.flagged))
    v.flagged in
    let b = IsRising-step (not z && not has) i (filled - count) (bool_byte (not z && not has))
    c.loop-place.others refl (omega (arith, v.filled))
    (omega (arith, c.loop-place-test.true, c.loop-place.auto.others, c.requires.others)) v.others in
    record {
      filled = filled_bound z filled c.from-filled.result i c.from-filled.ensures v.filled;
      count = s.0;
      flagged = a.1;
      others = subst (λ (k : ℕ). IsRising 0 (i + 1)
          (take k (set c.loop-place.others (filled - count) i))) s.1 b.1;
    }
  where
    filled_bound : (z : Bool) (filled a i : ℕ) → a ≡ bool_byte (not z) → filled ≤ i → filled + a
        ≤ i + 1
    filled_bound true filled a i e h = let y : a ≡ 0 = e in omega (arith, y, h)
    filled_bound false filled a i e h = let y : a ≡ 1 = e in omega (arith, y, h)

pub returns-clause-flagged : goal.returns-clause-flagged
returns-clause-flagged c =
    let n : c.loop-place.place ≡ length c.args.column.now =
    omega (arith, c.loop-place-test.false, c.loop-place.auto.place-end) in
    subst (λ (i : ℕ). IsRising 0 i (take c.loop-place.count c.loop-place.flagged)) n
    c.loop-place.invariant.flagged

pub returns-clause-others : goal.returns-clause-others
returns-clause-others c =
    let n : c.loop-place.place ≡ length c.args.column.now =
    omega (arith, c.loop-place-test.false, c.loop-place.auto.place-end) in
    subst (λ (i : ℕ). IsRising 0 i (take (c.loop-place.filled - c.loop-place.count)
    c.loop-place.others)) n c.loop-place.invariant.others
