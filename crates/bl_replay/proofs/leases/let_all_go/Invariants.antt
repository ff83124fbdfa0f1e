use Rattle.std.proofs.Common.{◌≡◌}
use Rattle.std.specs.BTreeMap.{btree_map_len}
use Rattle.bl_replay.proofs.leases.let_all_go.Given as goal

abbrev pub decreases-loop-lease : goal.decreases-loop-lease
decreases-loop-lease l = btree_map_len l.leases

abbrev pub invariant-loop-lease : goal.invariant-loop-lease
invariant-loop-lease l = l.tree ≡ l.initial.tree
