use denote.Param.Send.{IsSync, sendable}
use Rattle.std.specs.contracts.alloc.Global as Heap
use Rattle.bl_shared.proofs.Crosses.{tree_seat_send, shared_tree_sync}
use Rattle.bl_rows.specs.contracts.shared.Size as size
use Rattle.bl_rows.proofs.shared.search_all.Goals as goal

heap_sync : IsSync Heap.the_row
heap_sync = search sendable depth 20

size_sync : IsSync size.the_row
size_sync = search sendable depth 20

pub for_each_mut-requires-send-T : goal.for_each_mut-requires-send-T
for_each_mut-requires-send-T g c κs within = search (sendable, tree_seat_send) depth 20

pub for_each_mut-requires-sync-F : goal.for_each_mut-requires-sync-F
for_each_mut-requires-sync-F g c κs within =
    search (sendable, heap_sync, size_sync, shared_tree_sync) depth 12 fits 20000
