use Rattle.std.proofs.Common.{◌≡◌, ℕ, ◌+◌, ◌-◌, suc, arith, sym, ◌∙◌, ap, length, List, Some, None}
use Rattle.bl_problem.specs.declared.problem.Column.{Column}
use Rattle.bl_problem.specs.declared.cut.Cut.{Cut}
use Rattle.bl_desc.specs.declared.desc.Desc.{Desc}
use Rattle.bl_heur.specs.Dives.{propagated, dived, first_free}
use Rattle.bl_heur.proofs.Dived.{at_low-describes, turn-ended, turn-last, turn-on, no-turn}
use Rattle.bl_heur.proofs.Free.{first_free-inside}
use Rattle.bl_heur.proofs.diving.descend.Goals as goal

pub loop-init : goal.loop-init
loop-init c = record {
  suits = c.requires.suits;
  rest = λ m e. let z : m ≡ length c.args.problem.now.columns + 1 =
      omega (arith, e) in ap (λ (n : ℕ). dived n c.args.problem.now c.args.desc.now) z;
}

pub returns-then-not-branch-clause-exact : goal.returns-then-not-branch-clause-exact
returns-then-not-branch-clause-exact c =
    let n = length c.args.problem.now.columns in
    let w = ap (λ (cs : List Column). length cs) c.columns.ensures.columns in
    let m : ℕ = n - c.loop.counter in
    let z : suc m + c.loop.counter ≡ n + 1 = omega (arith, w, c.loop-test.true) in
    sym (c.loop.invariant.rest (suc m) z) ∙ turn-ended m c.args.problem.now c.loop.desc
    (rw c.if-not-branch.true at c.in_ok-propagate.ensures.exact)

pub returns-in-None-clause-exact : goal.returns-in-None-clause-exact
returns-in-None-clause-exact c =
    let n = length c.args.problem.now.columns in
    let w = ap (λ (cs : List Column). length cs) c.columns.ensures.columns in
    let m : ℕ = n - c.loop.counter in
    let z : suc m + c.loop.counter ≡ n + 1 = omega (arith, w, c.loop-test.true) in
    let f = c.propagate.new.desc in
    let e : propagated 20 c.args.problem.now c.loop.desc ≡ Some f =
    rw c.if-not-branch.false at c.in_ok-propagate.ensures.exact in
    let k : None ≡ first_free (length f.lows) f.lows f.highs =
    rw (c.as_slice.ensures, c.as_slice-in-loop.ensures) at c.in-None.ensures in
    sym (c.loop.invariant.rest (suc m) z) ∙ turn-last m c.args.problem.now c.loop.desc f e (sym k)

pub returns-in-None-clause-width : goal.returns-in-None-clause-width
returns-in-None-clause-width c = c.in_ok-propagate.ensures.suits.lows ∙ sym c.requires.suits.lows

pub take_low-requires-clause-low : goal.take_low-requires-clause-low
take_low-requires-clause-low c =
    let f = c.propagate.new.desc in
    let k : Some c.in-Some.column ≡ first_free (length f.lows) f.lows f.highs =
    rw (c.as_slice.ensures, c.as_slice-in-loop.ensures) at c.in-Some.ensures in
    first_free-inside (length f.lows) c.in-Some.column f.lows f.highs (sym k)

pub take_low-requires-clause-high : goal.take_low-requires-clause-high
take_low-requires-clause-high c =
    let f = c.propagate.new.desc in
    let k : Some c.in-Some.column ≡ first_free (length f.lows) f.lows f.highs =
    rw (c.as_slice.ensures, c.as_slice-in-loop.ensures) at c.in-Some.ensures in
    let l = first_free-inside (length f.lows) c.in-Some.column f.lows f.highs (sym k) in
    omega (arith, l, c.in_ok-propagate.ensures.suits.lows, c.in_ok-propagate.ensures.suits.highs)

pub loop-preserved : goal.loop-preserved
loop-preserved c =
    let p = c.args.problem.now in
    let f = c.propagate.new.desc in
    let j = c.in-Some.column in
    let e : propagated 20 p c.loop.desc ≡ Some f =
    rw c.if-not-branch.false at c.in_ok-propagate.ensures.exact in
    let k : Some j ≡ first_free (length f.lows) f.lows f.highs =
    rw (c.as_slice.ensures, c.as_slice-in-loop.ensures) at c.in-Some.ensures in
    record {
      suits = rw c.take_low.ensures (at_low-describes p f j c.in_ok-propagate.ensures.suits
          (first_free-inside (length f.lows) j f.lows f.highs (sym k)));
      rest = λ m z.
          ap (λ (d : Desc Cut). dived m p d) c.take_low.ensures
          ∙ sym (turn-on m j p c.loop.desc f e (sym k))
          ∙ c.loop.invariant.rest (suc m) (omega (arith, z));
    }

pub returns-clause-exact : goal.returns-clause-exact
returns-clause-exact c =
    let w = ap (λ (cs : List Column). length cs) c.columns.ensures.columns in
    sym (c.loop.invariant.rest 0 (omega (arith, w, c.loop.auto.counter-end, c.loop-test.false)))
    ∙ no-turn c.args.problem.now c.loop.desc

pub returns-clause-width : goal.returns-clause-width
returns-clause-width c = c.loop.invariant.suits.lows ∙ sym c.requires.suits.lows
