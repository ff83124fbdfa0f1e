use Rattle.std.proofs.Common.{◌≡◌, ◌≤◌, ℕ, true, length}
use Rattle.std.specs.Prelude.{count_by, is_some}
use Rattle.bl_tree.specs.Records.{AreCandidates, is_listed, may_go_at}
use Rattle.bl_tree.proofs.freeable.first_to_go.Given as goal

abbrev pub invariant-loop-key : goal.invariant-loop-key
invariant-loop-key l = record {
  plain : AreCandidates l.pool;
  kept : (q : ℕ) → is_listed l.fn.pool q ≡ true → may_go_at l.cutoff l.records q ≡ true
      → is_listed l.pool q ≡ true;
  room : l.fn.pool.room ≤ l.pool.room;
  below : length l.pool.keys ≡ length l.fn.pool.keys;
}

abbrev pub decreases-loop-key : goal.decreases-loop-key
decreases-loop-key l = count_by is_some l.pool.keys
