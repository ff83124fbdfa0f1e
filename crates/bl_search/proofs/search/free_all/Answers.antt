use Rattle.std.proofs.Common.{refl}
use Rattle.bl_journal.specs.declared.entry.Entry.TheVariants.{Free}
use Rattle.bl_search.proofs.Tidying.{kept_up_once, kept_up_then}
use Rattle.bl_search.proofs.search.free_all.Goals as goal

pub loop-preserved-in-Chain : goal.loop-preserved-in-Chain
loop-preserved-in-Chain c =
    let freed = rw c.in-Chain.is at c.in_ok-free.ensures.freed in
    kept_up_then c.args.tree.now c.loop.tree c.free.new.self c.loop.invariant
    (kept_up_once c.loop.tree c.free.new.self (Free 0 c.in-Chain.field-0) freed.1 refl)
