use Rattle.std.proofs.Common.{◌≡◌, ◌∷◌, [], length, length-append, Some, List, arith, ap, sym, ◌∙◌}
use Rattle.bl_tree.specs.declared.record.Record.{Record}
use Rattle.bl_tree.specs.Records.{next_up}
use Rattle.bl_tree.proofs.Freeings.{up_is, step_up, freeing_more, linked_gone, length-gone}
use Rattle.bl_tree.proofs.Freeings.{depth-gone}
use Rattle.bl_tree.proofs.freeing.free_up.Goals as goal

pub loop-parent-preserved : goal.loop-parent-preserved
loop-parent-preserved c =
    let inv = c.loop-parent.invariant in
    let up : next_up c.args.cutoff c.loop-parent.records.items c.loop-parent.last
    ≡ Some c.in-Some.parent =
    ap (λ (l : List Record). next_up c.args.cutoff l c.loop-parent.last)
    (sym c.as_slice.ensures.value) ∙ (sym c.next_up.ensures ∙ c.in-Some.is) in
    let is = up_is c.args.cutoff c.loop-parent.records.items c.loop-parent.last c.in-Some.parent
    up in
    let step = step_up c.args.cutoff c.loop-parent.records.items c.loop-parent.last
    c.in-Some.parent inv.linked inv.there up in
    let gone = c.go-in-Some.ensures.items in
    let ids = c.push_reserved-in-Some-2.ensures.items in
    let pieces = c.push_reserved-in-Some.ensures.items in
    let len = length-gone c.loop-parent.records.items c.in-Some.parent in
    let there = is.there in
    let more = ap length ids ∙ length-append c.loop-parent.ids.items (c.in-Some.parent ∷ []) in
    let deep = depth-gone c.loop-parent.records.items c.in-Some.parent c.in-Some.parent in
    let less = step.less_deep in
    let as_many = inv.as_many in
    let more_pieces = ap length pieces ∙ length-append c.loop-parent.pieces.items
    (c.go-in-Some.result ∷ []) in
    let room = inv.room in
    record {
      freeing = rw (gone, ids) (freeing_more c.args.cutoff c.args.records.now.items c.args.first
          c.loop-parent.last c.in-Some.parent c.loop-parent.ids.items c.loop-parent.records.items
          inv.freeing up);
      linked = rw gone (linked_gone c.loop-parent.records.items c.in-Some.parent inv.linked);
      there = rw gone (omega (arith, len, there));
      room = rw gone (omega (arith, more, deep, less, room));
      wide = c.push_reserved-in-Some-2.ensures.capacity ∙ inv.wide;
      as_many = omega (arith, more, more_pieces, as_many);
      pieces_wide = c.push_reserved-in-Some.ensures.capacity ∙ inv.pieces_wide;
      capacity = c.go-in-Some.ensures.capacity ∙ inv.capacity;
    }
