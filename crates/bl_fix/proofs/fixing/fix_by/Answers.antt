use Rattle.std.proofs.Common.{◌≡◌, pos, ◌≤ℤ◌, length, arith, rules, sym, ◌∙◌, ap, Some, FitsSigned}
use Rattle.std.specs.Int.{w64, w128}
use Rattle.std.proofs.lemmas.Int.{to_z-of_z}
use Rattle.std.proofs.lemmas.List.{take_all}
use Rattle.bl_bound.specs.Bounds.{sum_at}
use Rattle.bl_fix.specs.Gaps.{gap_of, decisions_below, fixed_of_reduced}
use Rattle.bl_fix.proofs.Gap.{gap-at, decided, stated, met}
use Rattle.bl_fix.proofs.Decisions.{decisions-within}
use Rattle.bl_fix.proofs.fixing.fix_by.Goals as goal

pub decisions-requires-clause-gap : goal.decisions-requires-clause-gap
decisions-requires-clause-gap c =
    let r = c.args.reduced.now in
    let d = c.denominator.ensures.value in
    let s : r.sum ≡ Some c.in-Some.sum = sym c.sum.ensures ∙ c.in-Some.is in
    let f : FitsSigned w128 c.in-Some.sum = search rules in
    let h : FitsSigned w128 c.args.cutoff = search rules in
    let g : FitsSigned w128 c.in-Some-gap.gap = search rules in
    let q : FitsSigned w64 c.denominator.result = record { sfits = c.denominator.type_inv } in
    let k : gap_of r.denominator c.args.cutoff c.in-Some.sum ≡ Some c.in-Some-gap.gap =
    rw d at (simp to_z-of_z at (sym c.in-Some-gap.ensures)) in
    rw (to_z-of_z w128 c.in-Some-gap.gap g) (gap-at r c.args.cutoff c.in-Some.sum
    c.in-Some-gap.gap (rw d at c.denominator.ensures.counted) s k c.requires.below)

-- what is known of the gap, and of the decisions that were made
record Known (c : goal.In_ok-decisions) : Type 0 where
  sum : c.args.reduced.now.sum ≡ Some c.in-Some.sum
  gap : gap_of c.args.reduced.now.denominator c.args.cutoff c.in-Some.sum ≡ Some c.in-Some-gap.gap
  positive : pos 0 ≤ℤ c.in-Some-gap.gap
  made : c.in_ok-decisions.field-0 ≡ decisions_below (length c.args.reduced.now.costs)
      c.in-Some-gap.gap (sum_at c.args.reduced.now.costs) c.args.desc.now.lows c.args.desc.now.highs

known : (c : goal.In_ok-decisions) → Known c
known c =
    let r = c.args.reduced.now in
    let d = c.denominator.ensures.value in
    let s : r.sum ≡ Some c.in-Some.sum = sym c.sum.ensures ∙ c.in-Some.is in
    let f : FitsSigned w128 c.in-Some.sum = search rules in
    let h : FitsSigned w128 c.args.cutoff = search rules in
    let g : FitsSigned w128 c.in-Some-gap.gap = search rules in
    let q : FitsSigned w64 c.denominator.result = record { sfits = c.denominator.type_inv } in
    let k : gap_of r.denominator c.args.cutoff c.in-Some.sum ≡ Some c.in-Some-gap.gap =
    rw d at (simp to_z-of_z at (sym c.in-Some-gap.ensures)) in
    let n : length c.costs.result.now ≡ length c.columns-columns.result.now =
    rw (c.costs.ensures, c.columns-columns.ensures.columns) c.requires.width in
    let t = take_all (length c.columns-columns.result.now) c.costs.result.now (omega (arith, n))
    ∙ c.costs.ensures in
    record {
      sum = s;
      gap = k;
      positive = gap-at r c.args.cutoff c.in-Some.sum c.in-Some-gap.gap
          (rw d at c.denominator.ensures.counted) s k c.requires.below;
      made = rw (
        to_z-of_z w128 c.in-Some-gap.gap g,
        t,
        c.as_slice-lows.ensures,
        c.as_slice-highs.ensures,
      ) at c.in_ok-decisions.ensures;
    }

exact : (c : goal.In_ok-decisions) → Some c.in_ok-decisions.field-0
    ≡ fixed_of_reduced c.args.reduced.now c.args.desc.now c.args.cutoff
exact c = let k = known c in ap Some k.made
    ∙ sym (decided c.args.reduced.now c.args.desc.now c.args.cutoff c.in-Some.sum
    c.in-Some-gap.gap k.sum k.gap)

pub returns-clause-exact : goal.returns-clause-exact
returns-clause-exact c = exact c

pub returns-clause-stated : goal.returns-clause-stated
returns-clause-stated c = λ y h. exact c ∙ stated c.args.problem.now c.args.desc.now y
    c.args.reduced.now c.args.cutoff h

pub returns-clause-within : goal.returns-clause-within
returns-clause-within c =
    let k = known c in
    let w = c.requires.width in
    rw k.made
    (decisions-within (length c.args.reduced.now.costs) (length c.args.problem.now.columns)
    c.in-Some-gap.gap (sum_at c.args.reduced.now.costs) c.args.desc.now.lows
    c.args.desc.now.highs k.positive
    (omega (arith, w)) (omega (arith, c.requires.suits.lows))
    (omega (arith, c.requires.suits.highs)) c.requires.suits.near_lows
    c.requires.suits.near_highs)

pub returns-clause-keeps : goal.returns-clause-keeps
returns-clause-keeps c = λ y x h l v.
    let k = known c in
    rw k.made (met c.args.problem.now c.args.desc.now y x c.args.reduced.now c.in-Some.sum
    c.in-Some-gap.gap c.args.cutoff c.columns-columns.ensures.program c.requires.suits h k.sum
    k.gap l v)
