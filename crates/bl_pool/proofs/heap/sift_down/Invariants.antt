use Rattle.std.proofs.Common.{◌≡◌, ◌<◌, ◌-◌, ℕ, length, vec_capacity}
use Rattle.bl_pool.specs.Heaps.{Down, Tied, key_at, key_of}
use Rattle.bl_pool.proofs.heap.sift_down.Given as goal

abbrev pub invariant-loop-at : goal.invariant-loop-at
invariant-loop-at l = record {
  inside : l.at < length l.keys.items;
  tied : Tied l.keys.items l.places;
  down : Down l.fn.order (key_of l.keys.items) (length l.keys.items) l.at;
  same : (id : ℕ) → key_at l.keys.items l.places id ≡ key_at l.initial.keys.items l.initial.places
      id;
  len : length l.keys.items ≡ length l.initial.keys.items;
  room : vec_capacity l.keys ≡ vec_capacity l.initial.keys;
  table : length l.places ≡ length l.initial.places;
}

abbrev pub decreases-loop-at : goal.decreases-loop-at
decreases-loop-at l = length l.keys.items - l.at
