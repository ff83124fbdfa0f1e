use Rattle.std.proofs.Common.{[], ◌∷◌, length, arith, rules, sym, subst}
use Rattle.std.specs.Int.{w128}
use Rattle.std.proofs.lemmas.Int.{to_z-of_z}
use Rattle.std.proofs.lemmas.Bool.{false≢true}
use Rattle.std.proofs.Common.{FitsSigned}
use Rattle.bl_problem.specs.Decisions.{Box}
use Rattle.bl_problem.specs.Points.{InBox}
use Rattle.bl_problem.proofs.Narrowed.{InBox-narrowed}
use Rattle.bl_prop.specs.Limits.{AreDecisions}
use Rattle.bl_node.specs.declared.working.Working.{Working}
use Rattle.bl_node.specs.Standing.{box_of, TakesDecisions}
use Rattle.bl_node.proofs.Keeping.{narrows-narrowed}
use Rattle.bl_node.proofs.Siding.{narrows-side, stands-side, one-decision}
use Rattle.bl_node.proofs.sides.side_of.Goals as goal

pub returns-then-not-has_point-clause-empty : goal.returns-then-not-has_point-clause-empty
returns-then-not-has_point-clause-empty c = λ e x i m.
    let d = c.args.decision in
    let old = c.args.state.now.work in
    let w = c.take_decision.new.work in
    let t : TakesDecisions old (d ∷ []) w =
    subst (λ (k : Working). TakesDecisions k (d ∷ []) w) c.in_ok-narrower.ensures
    c.take_decision.ensures in
    let b = InBox-narrowed (box_of old.desc) (d ∷ []) x i (m, tt) in
    let inside : InBox w.desc.lows w.desc.highs x =
    subst (λ (k : Box). InBox k.lows k.highs x) (sym t.box) b in
    c.if-not-has_point.ensures.none (search rules) x
    (rw (c.as_slice.ensures, c.as_slice-2.ensures) inside)

pub returns-clause-side : goal.returns-clause-side
returns-clause-side c =
    let p = c.args.problem.now in
    let f = c.args.parent.now in
    let d = c.args.decision in
    let old = c.args.state.now.work in
    let w = c.take_decision.new.work in
    let fits : FitsSigned w128 w.low = search rules in
    let t : TakesDecisions old (d ∷ []) w =
    subst (λ (k : Working). TakesDecisions k (d ∷ []) w) c.in_ok-narrower.ensures
    c.take_decision.ensures in
    let n = c.requires.within c.requires.open in
    let some = rw (c.as_slice.ensures, c.as_slice-2.ensures) at
    (c.if-not-has_point.ensures.some (search rules)) in
    let decisions : AreDecisions (length old.desc.lows) (d ∷ []) =
    one-decision (length old.desc.lows) d (rw n.describes.lows c.requires.decision) in
    let narrower = narrows-narrowed p f old w (d ∷ []) n t decisions
    (let r = c.requires.room in omega (arith, r)) some in
    rw (c.in_ok-desc.ensures, to_z-of_z w128 w.low fits) (record {
      box = t.box;
      open_box = λ e. narrows-side p f w narrower;
      known = λ cutoff s. record {
        stands = stands-side p f cutoff old w d n t s;
        none =
            λ k. absurd (false≢true k);
      };
    })
