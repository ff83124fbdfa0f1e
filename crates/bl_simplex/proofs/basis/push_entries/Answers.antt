use Rattle.bl_factor.proofs.SparseLemmas.{IsSparse-weaker}
use Rattle.bl_simplex.proofs.basis.push_entries.Goals as goal

pub returns-clause-whole : goal.returns-clause-whole
returns-clause-whole c =
    let v = c.loop-coefficient.invariant in
    IsSparse-weaker 0 c.loop-coefficient.next c.args.size c.loop-coefficient.entries.items
    v.sparse v.below
