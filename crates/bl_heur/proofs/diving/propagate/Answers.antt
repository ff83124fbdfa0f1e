use Rattle.std.proofs.Common.{◌≡◌, ℕ, ◌+◌, ◌-◌, suc, arith, sym, ◌∙◌, ap, length}
use Rattle.bl_desc.specs.declared.desc.Desc.{Desc}
use Rattle.bl_problem.specs.declared.cut.Cut.{Cut}
use Rattle.bl_prop.specs.Limits.{AreDecisions}
use Rattle.bl_heur.specs.Dives.{propagated, narrowed}
use Rattle.bl_heur.proofs.Dived.{narrowed-describes, pass-empty, pass-same, pass-changed, no-pass}
use Rattle.bl_heur.proofs.diving.propagate.Goals as goal

pub loop-init : goal.loop-init
loop-init c = record {
  suits = c.requires.suits;
  rest = λ m e. let z : m ≡ 20 =
      omega (arith, e) in ap (λ (n : ℕ). propagated n c.args.problem.now c.args.desc.now) z;
}

pub tighten-requires : goal.tighten-requires
tighten-requires c = record { suits = c.loop.invariant.suits }

pub returns-in-Empty-clause-exact : goal.returns-in-Empty-clause-exact
returns-in-Empty-clause-exact c =
    let m : ℕ = 19 - c.loop.counter in
    let z : suc m + c.loop.counter ≡ 20 = omega (arith, c.loop-test.true) in
    sym (c.loop.invariant.rest (suc m) z) ∙ pass-empty m c.in-Empty.row c.args.problem.now
    c.loop.desc (sym c.in-Empty.is ∙ c.in_ok-tighten.ensures.exact)

pub returns-in-Same-clause-exact : goal.returns-in-Same-clause-exact
returns-in-Same-clause-exact c =
    let m : ℕ = 19 - c.loop.counter in
    let z : suc m + c.loop.counter ≡ 20 = omega (arith, c.loop-test.true) in
    sym (c.loop.invariant.rest (suc m) z) ∙ pass-same m c.args.problem.now c.loop.desc
    (sym c.in-Same.is ∙ c.in_ok-tighten.ensures.exact)

pub returns-in-Same-clause-suits : goal.returns-in-Same-clause-suits
returns-in-Same-clause-suits c = c.loop.invariant.suits

pub narrow-requires-clause-decisions : goal.narrow-requires-clause-decisions
narrow-requires-clause-decisions c =
    rw (c.as_slice.ensures, c.loop.invariant.suits.lows)
    (rw c.in-Changed.is at c.in_ok-tighten.ensures.within)

pub narrow-requires-clause-highs : goal.narrow-requires-clause-highs
narrow-requires-clause-highs c = c.loop.invariant.suits.highs ∙ sym c.loop.invariant.suits.lows

pub loop-preserved : goal.loop-preserved
loop-preserved c =
    let p = c.args.problem.now in
    let es = c.in-Changed.decisions in
    let n : c.narrow.new.desc ≡ narrowed c.loop.desc es =
    rw c.as_slice.ensures at c.narrow.ensures in
    let w : AreDecisions (length p.columns) es =
    rw c.in-Changed.is at c.in_ok-tighten.ensures.within in
    record {
      suits = rw n (narrowed-describes p es c.loop.desc c.loop.invariant.suits w.each);
      rest = λ m e.
          ap (λ (d : Desc Cut). propagated m p d) n
          ∙ sym (pass-changed m p c.loop.desc es
          (sym c.in-Changed.is ∙ c.in_ok-tighten.ensures.exact))
          ∙ c.loop.invariant.rest (suc m) (omega (arith, e));
    }

pub returns-clause-exact : goal.returns-clause-exact
returns-clause-exact c =
    sym (c.loop.invariant.rest 0 (omega (arith, c.loop.auto.counter-end, c.loop-test.false)))
    ∙ no-pass c.args.problem.now c.loop.desc

pub returns-clause-suits : goal.returns-clause-suits
returns-clause-suits c = c.loop.invariant.suits
