use Rattle.std.proofs.Common.{◌≡◌, ◌<◌, ◌≤◌, ◌+◌, ℕ, true, length}
use Rattle.bl_tree.specs.Records.{AreCandidates, is_listed, may_go_at}
use Rattle.bl_tree.proofs.freeable.add_all.Given as goal

abbrev pub invariant-loop-i : goal.invariant-loop-i
invariant-loop-i l = record {
  plain : AreCandidates l.pool;
  all : (q : ℕ) → q < l.i → may_go_at l.cutoff l.records q ≡ true → is_listed l.pool q ≡ true;
  others : (q : ℕ) → is_listed l.fn.pool q ≡ true → is_listed l.pool q ≡ true;
  room : l.fn.pool.room ≤ l.pool.room + l.i;
  below : length l.pool.keys ≡ length l.fn.pool.keys;
}
