use Rattle.std.proofs.Common.{rules}
use Rattle.std.proofs.lemmas.Bool.{false≢true}
use Rattle.bl_node.proofs.Ending.{lows-inside, none-after, none-where}
use Rattle.bl_node.proofs.node.test_last.Goals as goal

pub accept-requires-clause-feasible : goal.accept-requires-clause-feasible
accept-requires-clause-feasible c =
    rw c.in_ok-point.ensures (rw c.as_slice.ensures at (c.if-is_feasible.ensures.0 (search rules)))

pub accept-requires-clause-width : goal.accept-requires-clause-width
accept-requires-clause-width c = rw c.in_ok-point.ensures c.requires.narrows.describes.lows

pub accept-requires-clause-near : goal.accept-requires-clause-near
accept-requires-clause-near c = rw c.in_ok-point.ensures c.requires.narrows.describes.near_lows

pub returns-in_ok-point-clause-stands : goal.returns-in_ok-point-clause-stands
returns-in_ok-point-clause-stands c = λ cutoff s.
    c.accept.ensures.stands c.args.parent.now cutoff
    (rw c.in_ok-point.ensures (lows-inside c.args.problem.now c.args.parent.now
    c.args.work.now c.requires.narrows)) s

pub returns-in_ok-point-clause-none : goal.returns-in_ok-point-clause-none
returns-in_ok-point-clause-none c = λ cutoff s.
    let t = c.accept.ensures.stands c.args.parent.now cutoff
    (rw c.in_ok-point.ensures (lows-inside c.args.problem.now c.args.parent.now
    c.args.work.now c.requires.narrows)) s in
    let r = rw c.in_ok-point.ensures at c.accept.ensures.reached in
    none-after c.args.problem.now c.args.parent.now cutoff c.accept.new.work t
    (rw c.accept.ensures.same c.requires.one) (rw c.accept.ensures.same r)

pub returns-else-is_feasible-clause-none : goal.returns-else-is_feasible-clause-none
returns-else-is_feasible-clause-none c = λ cutoff s.
    none-where c.args.problem.now c.args.parent.now cutoff c.args.work.now s c.requires.one
    (λ g. false≢true (c.if-is_feasible.ensures.1 (rw c.as_slice.ensures g)))
