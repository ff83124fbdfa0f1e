use Rattle.std.proofs.Common.{rules, ◌≡◌, FitsSigned, ◌∙◌, ap, List, Option, add-one}
use Rattle.std.specs.Int.{w64, w128}
use Rattle.std.proofs.lemmas.Int.{to_z-of_z}
use Rattle.bl_num.specs.Exact.{at}
use Rattle.bl_problem.specs.declared.decision.Decision.{Decision}
use Rattle.bl_bound.specs.Bounds.{sum_at}
use Rattle.bl_fix.specs.Gaps.{decision_of, with_decision, decisions_below}
use Rattle.bl_fix.proofs.deciding.decisions.Goals as goal

pub loop-j-preserved : goal.loop-j-preserved
loop-j-preserved c =
    let j = c.loop-j.j in
    let lows = c.args.lows.now in
    let highs = c.args.highs.now in
    let costs = c.args.costs.now in
    let gap = c.args.gap in
    let f : FitsSigned w64 (at lows j) = search rules in
    let g : FitsSigned w64 (at highs j) = search rules in
    let k : FitsSigned w128 gap = search rules in
    let q : c.decision-found.result ≡ decision_of gap j (sum_at costs j) (at lows j)
    (at highs j) = simp to_z-of_z at c.decision-found.ensures in
    let i : c.loop-j.decisions ≡ decisions_below j gap (sum_at costs) lows highs =
    rw (to_z-of_z w128 gap k) at c.loop-j.invariant in
    rw (to_z-of_z w128 gap k, add-one j)
    (c.in_ok-append.ensures ∙ ap (λ (o : Option Decision). with_decision c.loop-j.decisions o) q
    ∙ ap (λ (ds : List Decision). with_decision ds
    (decision_of gap j (sum_at costs j) (at lows j) (at highs j))) i)
