use Rattle.std.proofs.Common.{◌≡◌, ◌≤◌, ◌+◌, ℕ, None, length}
use Rattle.bl_pool.specs.Views.{key_in}
use Rattle.bl_rows.proofs.pool.fill.Given as goal

abbrev pub invariant-loop-id : goal.invariant-loop-id
invariant-loop-id l = record {
  room : l.count ≤ l.pool.room + l.id;
  below : l.count ≤ length l.pool.keys;
  fresh : (id : ℕ) → l.id ≤ id → key_in l.pool id ≡ None;
}
