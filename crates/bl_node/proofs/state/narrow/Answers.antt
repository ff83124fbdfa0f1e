use Rattle.std.proofs.Common.{arith}
use Rattle.std.proofs.lemmas.Int.{ints}
use Rattle.bl_node.proofs.Moving.{moves-on}
use Rattle.bl_node.proofs.Promising.{stands-open, narrows-open}
use Rattle.bl_node.proofs.state.narrow.Goals as goal

pub returns-in_default : goal.returns-in_default
returns-in_default c =
    let p = c.args.problem.now in
    let f = c.args.parent.now in
    let old = c.args.state.now in
    let w = c.decide.new.work in
    moves-on p f old w c.requires.open
    (λ cutoff s. stands-open p f cutoff c.decide.result w c.in_default.not-Shut
    (c.decide.ensures.knows f cutoff s (c.requires.met cutoff s)))
    (narrows-open p f c.decide.result w c.in_default.not-Shut
    (c.decide.ensures.leaves f (c.requires.within c.requires.open)))
    c.decide.ensures.shrinks
    (rw c.decide.ensures.low (omega (arith, ints)))
    c.decide.ensures.statuses.cuts
