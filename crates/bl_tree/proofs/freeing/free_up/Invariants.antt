use Rattle.std.proofs.Common.{◌≡◌, ◌<◌, ◌≤◌, ◌+◌, length, vec_capacity, slice_get}
use Rattle.bl_tree.specs.Records.{depth_if, AreLinked, IsFreeingUp}
use Rattle.bl_tree.proofs.freeing.free_up.Given as goal

abbrev pub invariant-loop-parent : goal.invariant-loop-parent
invariant-loop-parent l = record {
  freeing : IsFreeingUp l.cutoff l.fn.records.items l.first l.ids.items l.last l.records.items;
  linked : AreLinked l.records.items;
  there : l.last < length l.records.items;
  room : length l.ids.items + depth_if (slice_get l.records.items l.last)
      ≤ depth_if (slice_get l.fn.records.items l.first) + 1;
  wide : vec_capacity l.ids ≡ vec_capacity l.fn.ids;
  as_many : length l.pieces.items ≡ length l.ids.items;
  pieces_wide : vec_capacity l.pieces ≡ vec_capacity l.fn.pieces;
  capacity : vec_capacity l.records ≡ vec_capacity l.fn.records;
}

abbrev pub decreases-loop-parent : goal.decreases-loop-parent
decreases-loop-parent l = l.last
