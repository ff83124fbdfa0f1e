use Rattle.std.proofs.Common.{List, ◌≡◌, ◌∙◌, ℕ, true, length, sym, subst, arith}
use Rattle.bl_pool.specs.declared.key.Key.{Key}
use Rattle.bl_pool.specs.Heaps.{Up, key_of, parent}
use Rattle.bl_pool.specs.Orders.{before}
use Rattle.bl_pool.proofs.HeapSteps.{up_step}
use Rattle.bl_pool.proofs.heap.sift_up.Goals as goal

pub loop-at-preserved : goal.loop-at-preserved
loop-at-preserved c =
    let lower : before c.args.order (key_of c.loop-at.keys.items c.loop-at.at)
    (key_of c.loop-at.keys.items (parent c.loop-at.at)) ≡ true = subst
    (λ (ks : List Key). before c.args.order (key_of ks c.loop-at.at)
    (key_of ks (parent c.loop-at.at)) ≡ true) c.as_slice.ensures.value
    (sym c.is_before.ensures ∙ c.if-not-is_before.false) in
    record {
      inside = omega (arith, c.exchange.ensures.len);
      tied = c.exchange.ensures.tied;
      up = subst (λ (n : ℕ). Up c.args.order (key_of c.exchange.new.keys.items) n
          (parent c.loop-at.at)) (sym c.exchange.ensures.len)
          (up_step c.args.order (key_of c.loop-at.keys.items) (key_of c.exchange.new.keys.items)
          (length c.loop-at.keys.items) c.loop-at.at c.loop-at-test.true
          c.loop-at.invariant.inside c.loop-at.invariant.up lower
          (c.exchange.ensures.at_i, c.exchange.ensures.at_j, c.exchange.ensures.others));
      same = λ id. c.exchange.ensures.same id ∙ c.loop-at.invariant.same id;
      len = c.exchange.ensures.len ∙ c.loop-at.invariant.len;
      room = c.exchange.ensures.room ∙ c.loop-at.invariant.room;
      table = c.exchange.ensures.table ∙ c.loop-at.invariant.table;
    }
