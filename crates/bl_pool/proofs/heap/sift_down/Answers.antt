use Rattle.std.proofs.Common.{List, ◌≡◌, ◌<◌, ◌∙◌, ℕ, false, length, sym, subst}
use Rattle.bl_pool.specs.declared.key.Key.{Key}
use Rattle.bl_pool.specs.Heaps.{Ordered, key_of, parent}
use Rattle.bl_pool.specs.Orders.{before}
use Rattle.bl_pool.proofs.HeapSteps.{down_stop}
use Rattle.bl_pool.proofs.heap.sift_down.Goals as goal

pub returns-then-not-is_before-clause-heap : goal.returns-then-not-is_before-clause-heap
returns-then-not-is_before-clause-heap c =
    let child : ℕ = c.first_child-child.result in
    let above : before c.args.order (key_of c.loop-at.keys.items child)
    (key_of c.loop-at.keys.items c.loop-at.at) ≡ false =
    subst (λ (ks : List Key). before c.args.order (key_of ks child) (key_of ks c.loop-at.at)
    ≡ false) c.as_slice-in-loop-at.ensures.value
    (sym c.is_before.ensures ∙ c.if-not-is_before.true) in
    let least : (i : ℕ) → 0 < i → i < length c.loop-at.keys.items → parent i ≡ c.loop-at.at
    → Ordered c.args.order (key_of c.loop-at.keys.items) child i =
    subst (λ (ks : List Key). (i : ℕ) → 0 < i → i < length ks → parent i ≡ c.loop-at.at
    → Ordered c.args.order (key_of ks) child i) c.as_slice.ensures.value
    c.first_child-child.ensures.least in
    down_stop c.args.order (key_of c.loop-at.keys.items) (length c.loop-at.keys.items)
    c.loop-at.at child c.loop-at.invariant.down above least
