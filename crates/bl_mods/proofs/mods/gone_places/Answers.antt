use Rattle.std.proofs.Common.{◌≡◌, ◌<◌, ◌+◌, ℕ, List, ◌++◌, length, ap, sym, ◌∙◌, arith, false}
use Rattle.std.proofs.lemmas.Bool.{iff_false}
use Rattle.bl_mods.specs.Mods.{has_id, fresh_in}
use Rattle.bl_mods.proofs.Diffing.{pushed_rest, all_push, all_weaker}
use Rattle.bl_mods.proofs.Going.{has_id_at, gone_keeps, gone_drops, left_keeps, left_drops}
use Rattle.bl_mods.proofs.Going.{not_next}
use Rattle.bl_mods.proofs.mods.gone_places.Goals as goal

pub loop-at-preserved-then-is_next_item : goal.loop-at-preserved-then-is_next_item
loop-at-preserved-then-is_next_item g c =
    let h : c.loop-at.at < length c.args.old.now = omega arith in
    let here = c.is_next_item.ensures.0 c.if-is_next_item.true in
    let has = has_id_at g.C.Item.id_of (g.C.Item.id_of c.index-old-at.result) c.args.new.now
    c.loop-at.next here in
    record {
      rest = ap (λ (l : List ℕ). c.loop-at.dropped ++ l)
          (sym (gone_keeps g.C.Item.id_of c.loop-at.at c.args.old.now c.args.new.now
          c.index-old-at.result h c.index-old-at.is has)) ∙ c.loop-at.invariant.rest;
      below = all_weaker (λ (p : ℕ). p < c.loop-at.at) (λ (p : ℕ). p < c.loop-at.at + 1)
          c.loop-at.dropped (λ p b. omega (arith, b)) c.loop-at.invariant.below;
      left = left_keeps (λ y. has_id g.C.Item.id_of (g.C.Item.id_of y) c.args.new.now)
          c.loop-at.at c.loop-at.next c.args.old.now c.args.new.now
          (fresh_in g.C.Item.id_of c.args.old.now c.args.new.now) c.index-old-at.result h here.0
          c.index-old-at.is has c.loop-at.invariant.left;
      next = omega (arith, here.0);
    }

pub loop-at-preserved : goal.loop-at-preserved
loop-at-preserved g c =
    let h : c.loop-at.at < length c.args.old.now = omega arith in
    let has : has_id g.C.Item.id_of (g.C.Item.id_of c.index-old-at.result) c.args.new.now ≡ false =
    not_next g.C.Item.id_of c.loop-at.at c.loop-at.next c.args.old.now c.args.new.now
    (fresh_in g.C.Item.id_of c.args.old.now c.args.new.now) c.index-old-at.result h
    c.index-old-at.is c.loop-at.invariant.left
    (iff_false c.is_next_item.ensures c.if-is_next_item.false) in
    record {
      rest = pushed_rest _ _ _ _ _ _ c.in_ok-push.ensures.ok
          (gone_drops g.C.Item.id_of c.loop-at.at c.args.old.now c.args.new.now
          c.index-old-at.result h c.index-old-at.is has) c.loop-at.invariant.rest;
      below = all_push (λ (p : ℕ). p < c.loop-at.at + 1) c.loop-at.dropped c.push.new.self
          c.loop-at.at c.in_ok-push.ensures.ok
          (all_weaker (λ (p : ℕ). p < c.loop-at.at) (λ (p : ℕ). p < c.loop-at.at + 1)
          c.loop-at.dropped (λ p b. omega (arith, b)) c.loop-at.invariant.below) (omega arith);
      left = left_drops (λ y. has_id g.C.Item.id_of (g.C.Item.id_of y) c.args.new.now)
          c.loop-at.at c.loop-at.next c.args.old.now c.args.new.now
          (fresh_in g.C.Item.id_of c.args.old.now c.args.new.now) c.index-old-at.result h
          c.index-old-at.is has c.loop-at.invariant.left;
      next = c.loop-at.invariant.next;
    }
