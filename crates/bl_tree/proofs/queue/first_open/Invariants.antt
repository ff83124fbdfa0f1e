use Rattle.std.proofs.Common.{◌≡◌, ◌≤◌, ℕ, length}
use Rattle.std.specs.Prelude.{count_by, is_some}
use Rattle.bl_pool.specs.Views.{key_in}
use Rattle.bl_tree.specs.Records.{IsThinned}
use Rattle.bl_tree.proofs.queue.first_open.Given as goal

abbrev pub invariant-loop-key : goal.invariant-loop-key
invariant-loop-key l = record {
  order : l.pool.order ≡ l.fn.pool.order;
  keys : (id : ℕ) → IsThinned l.cutoff (key_in l.fn.pool id) (key_in l.pool id);
  room : l.fn.pool.room ≤ l.pool.room;
  below : length l.pool.keys ≡ length l.fn.pool.keys;
}

abbrev pub decreases-loop-key : goal.decreases-loop-key
decreases-loop-key l = count_by is_some l.pool.keys
