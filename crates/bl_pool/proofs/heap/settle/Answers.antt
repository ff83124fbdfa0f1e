use Rattle.std.proofs.Common.{List, ◌≡◌, ◌∙◌, true, length, sym, subst}
use Rattle.bl_pool.specs.declared.key.Key.{Key}
use Rattle.bl_pool.specs.Heaps.{key_of, parent}
use Rattle.bl_pool.specs.Orders.{before}
use Rattle.bl_pool.proofs.HeapSteps.{loose_up}
use Rattle.bl_pool.proofs.heap.settle.Goals as goal

pub sift_up-requires-clause-up : goal.sift_up-requires-clause-up
sift_up-requires-clause-up c = loose_up c.args.order (key_of c.args.keys.now.items)
    (key_of c.args.keys.now.items) (length c.args.keys.now.items) c.args.at c.if-at-gt0.true
    c.requires.loose
    (subst (λ (ks : List Key). before c.args.order (key_of ks c.args.at)
    (key_of ks (parent c.args.at)) ≡ true) c.as_slice.ensures.value
    (sym c.is_before.ensures ∙ c.if-is_before.true))
