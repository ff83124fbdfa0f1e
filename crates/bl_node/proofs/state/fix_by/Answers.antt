use Rattle.std.proofs.Common.{rules, FitsSigned}
use Rattle.std.specs.Int.{w128}
use Rattle.std.proofs.lemmas.Int.{to_z-of_z}
use Rattle.bl_node.proofs.Keeping.{left}
use Rattle.bl_node.proofs.Moving.{moves-none}
use Rattle.bl_node.proofs.state.fix_by.Goals.{in-Some-2, in_default-2}
use Rattle.bl_node.proofs.state.fix_by.Goals as goal

pub narrow-requires-clause-met : goal.narrow-requires-clause-met
narrow-requires-clause-met c = λ cutoff s x q.
    let fits : FitsSigned w128 c.in-Some.best = search rules in
    let below = rw c.in-Some.is at q.below in
    let keeps = rw c.in-Some-2.is at c.in_ok-decisions.ensures.keeps in
    let better = c.lowered-cutoff.ensures.above x (rw (to_z-of_z w128 c.in-Some.best fits) below) in
    let fits_too : FitsSigned w128 c.lowered-cutoff.result = search rules in
    let inside = left c.args.problem.now c.args.parent.now cutoff c.args.state.now.work x s q in
    rw c.as_slice.ensures (keeps c.args.y.now x c.in_ok-reduced.ensures.reduced inside
    (rw (to_z-of_z w128 c.lowered-cutoff.result fits_too) better))

pub returns : goal.returns
returns c = elim c.match-branch-3.branch [
  | in-Some-2 w ↦ rw w.state-is w.narrow.ensures
  | in_default-2 w ↦ rw w.state-is
      (moves-none c.args.problem.now c.args.parent.now c.args.state.now c.requires)
]
