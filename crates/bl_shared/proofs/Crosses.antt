-- A tree may go to another thread.
use denote.RattleType.{RattleType}
use denote.Param.Send.{IsSend, IsSync, sendable, recorded_send, recorded_sync, struct_send}
use denote.Param.Send.{struct_sync, enum_send}
use denote.Struct.Declared.{shape}
use denote.Enum.Declared.{shape as enum_shape}
use Rattle.std.proofs.Crossing.{crosses}
use Rattle.std.specs.contracts.alloc.Global as Heap
use Rattle.std.specs.contracts.impls.GlobalAllocator.TheImpl.{ghosts as heap}
use Rattle.smallvec.specs.contracts.small_vec.SmallVec as small
use Rattle.bl_mods.specs.contracts.items.Items as items
use Rattle.bl_mods.specs.contracts.items.Shared as sharing
use Rattle.bl_mods.specs.contracts.short.ShortItems as short
use Rattle.bl_mods.specs.contracts.mods.Mod as one_mod
use Rattle.bl_mods.specs.contracts.mods.FieldMods as field_mods
use Rattle.bl_mods.specs.contracts.mods.Places as places
use Rattle.bl_mods.specs.contracts.mods.ListMods as list_mods
use Rattle.bl_pool.specs.contracts.key.Order as order
use Rattle.bl_pool.specs.contracts.key.Key as key
use Rattle.bl_pool.specs.contracts.pool.Pool as pool
use Rattle.bl_problem.specs.contracts.name.Name as name
use Rattle.bl_problem.specs.contracts.problem.Sense as sense
use Rattle.bl_problem.specs.contracts.problem.Term as term
use Rattle.bl_problem.specs.contracts.problem.Column as column
use Rattle.bl_problem.specs.contracts.problem.Row as row
use Rattle.bl_problem.specs.contracts.problem.Problem as problem
use Rattle.bl_problem.specs.contracts.cut.Cut as cut
use Rattle.bl_desc.specs.contracts.change.Change as change
use Rattle.bl_desc.specs.contracts.desc.Status as status
use Rattle.bl_desc.specs.contracts.desc.Desc as desc
use Rattle.bl_desc.specs.contracts.desc.Piece as piece
use Rattle.bl_journal.specs.contracts.entry.Step as step
use Rattle.bl_journal.specs.contracts.entry.Entry as entry
use Rattle.bl_journal.specs.contracts.journal.Journal as journal
use Rattle.bl_tree.specs.contracts.record.Record as node
use Rattle.bl_tree.specs.contracts.workspace.Workspace as workspace
use Rattle.bl_tree.specs.contracts.tree.Tree as tree
use Rattle.bl_turn.specs.contracts.seat.Seat as seat
use Rattle.bl_turn.proofs.Crosses.{seat_send, turn_fields_sync}
use Rattle.bl_shared.specs.contracts.locked.LockedTree as locked
use Rattle.bl_shared.specs.contracts.locked.TreeBase as base
use Rattle.bl_shared.specs.contracts.locked.LockedTreeTold.TheImpl.{ghosts}
use Rattle.bl_shared.specs.contracts.shared.SharedTree as shared

items_send : (T : RattleType) → IsSend T → IsSend (items.the_row T)
items_send T s = search (sendable, crosses) depth 20

items_sync : (T : RattleType) → IsSync T → IsSync (items.the_row T)
items_sync T s = search (sendable, crosses) depth 20

sharing_send : (T : RattleType) → IsSend T → IsSync T → IsSend (sharing.the_row T)
sharing_send T s y = search (sendable, crosses) depth 20

sharing_sync : (T : RattleType) → IsSend T → IsSync T → IsSync (sharing.the_row T)
sharing_sync T s y = search (sendable, crosses) depth 20

small_send : (T N : RattleType) → IsSend T → IsSend (small.the_row T N Heap.the_row heap)
small_send T N s = search (sendable, crosses) depth 20

small_sync : (T N : RattleType) → IsSync T → IsSync (small.the_row T N Heap.the_row heap)
small_sync T N s = search (sendable, crosses) depth 20

short_send : (T : RattleType) → IsSend T → IsSend (short.the_row T)
short_send T s = search (sendable, crosses, small_send) depth 20

short_sync : (T : RattleType) → IsSync T → IsSync (short.the_row T)
short_sync T s = search (sendable, crosses, small_sync) depth 20

mod_send : (T : RattleType) → IsSend T → IsSend (one_mod.the_row T)
mod_send T s = search sendable depth 20

mod_sync : (T : RattleType) → IsSync T → IsSync (one_mod.the_row T)
mod_sync T s = search sendable depth 20

name_send : IsSend name.the_row
name_send = search (sendable, crosses) depth 20

name_sync : IsSync name.the_row
name_sync = search (sendable, crosses) depth 20

term_send : IsSend term.the_row
term_send = search (sendable, crosses) depth 20

term_sync : IsSync term.the_row
term_sync = search (sendable, crosses) depth 20

column_send : IsSend column.the_row
column_send = search (sendable, name_send) depth 20

column_sync : IsSync column.the_row
column_sync = search (sendable, name_sync) depth 20

row_send : IsSend row.the_row
row_send = search (sendable, crosses, name_send, term_send) depth 20

row_sync : IsSync row.the_row
row_sync = search (sendable, crosses, name_sync, term_sync) depth 20

sense_send : IsSend sense.the_row
sense_send = search sendable depth 20

sense_sync : IsSync sense.the_row
sense_sync = search sendable depth 20

pub problem_send : IsSend problem.the_row
problem_send = search (sendable, crosses, column_send, row_send, name_send) depth 20

pub problem_sync : IsSync problem.the_row
problem_sync = search (sendable, crosses, column_sync, row_sync, name_sync) depth 20

pub cut_send : IsSend cut.the_row
cut_send = search (sendable, crosses, term_send) depth 20

pub cut_sync : IsSync cut.the_row
cut_sync = search (sendable, crosses, term_sync) depth 20

field_mods_send : (T : RattleType) → IsSend T → IsSend (field_mods.the_row T)
field_mods_send T s = search (sendable, short_send, mod_send) depth 20

field_mods_sync : (T : RattleType) → IsSync T → IsSync (field_mods.the_row T)
field_mods_sync T s = search (sendable, short_sync, mod_sync) depth 20

places_send : IsSend places.the_row
places_send = search (sendable, short_send) depth 20

places_sync : IsSync places.the_row
places_sync = search (sendable, short_sync) depth 20

list_mods_send : (T : RattleType) → IsSend T → IsSync T → IsSend (list_mods.the_row T)
list_mods_send T s y = search (sendable, places_send, items_send, sharing_send) depth 20

list_mods_sync : (T : RattleType) → IsSend T → IsSync T → IsSync (list_mods.the_row T)
list_mods_sync T s y = search (sendable, places_sync, items_sync, sharing_sync) depth 20

status_send : IsSend status.the_row
status_send = search sendable depth 20

status_sync : IsSync status.the_row
status_sync = search sendable depth 20

-- the fields of a struct or an enum as they stand in another one
list_mods_fields_send : (T : RattleType) → IsSend T → IsSync T → IsSend (list_mods.the_field T).row
list_mods_fields_send T s y = struct_send (shape (list_mods.the_type T)) (
  search (sendable, places_send) depth 12,
  (search (sendable, items_send, sharing_send) depth 12, tt),
)

list_mods_fields_sync : (T : RattleType) → IsSend T → IsSync T → IsSync (list_mods.the_field T).row
list_mods_fields_sync T s y = struct_sync (shape (list_mods.the_type T)) (
  search (sendable, places_sync) depth 12,
  (search (sendable, items_sync, sharing_sync) depth 12, tt),
)

change_send : IsSend (change.the_row cut.the_row)
change_send =
    recorded_send (change.the_field cut.the_row).row _ _ (change.the_type cut.the_row).to_one
    (struct_send (shape (change.the_type cut.the_row)) (
      search (sendable, field_mods_send) depth 12,
      (
        search (sendable, field_mods_send) depth
            12,
        (
          list_mods_fields_send cut.the_row cut_send cut_sync,
          (
            search (sendable, field_mods_send, status_send) depth 12,
            (
              search (sendable, field_mods_send, status_send) depth 12,
              (search (sendable, field_mods_send, status_send) depth 12, tt),
            ),
          ),
        ),
      ),
    ))

change_sync : IsSync (change.the_row cut.the_row)
change_sync =
    recorded_sync (change.the_field cut.the_row).row _ _ (change.the_type cut.the_row).to_one
    (struct_sync (shape (change.the_type cut.the_row)) (
      search (sendable, field_mods_sync) depth 12,
      (
        search (sendable, field_mods_sync) depth
            12,
        (
          list_mods_fields_sync cut.the_row cut_send cut_sync,
          (
            search (sendable, field_mods_sync, status_sync) depth 12,
            (
              search (sendable, field_mods_sync, status_sync) depth 12,
              (search (sendable, field_mods_sync, status_sync) depth 12, tt),
            ),
          ),
        ),
      ),
    ))

desc_send : IsSend (desc.the_row cut.the_row)
desc_send = search (sendable, items_send, sharing_send, status_send, cut_send, cut_sync) depth 20

desc_sync : IsSync (desc.the_row cut.the_row)
desc_sync = search (sendable, items_sync, sharing_sync, status_sync, cut_send, cut_sync) depth 20

piece_send : IsSend (piece.the_row cut.the_row)
piece_send = search (sendable, sharing_send, desc_send, desc_sync, change_send, change_sync) depth
    20

step_send : IsSend step.the_row
step_send = search (sendable, sharing_send, change_send, change_sync) depth 20

step_fields_send : IsSend step.the_field.row
step_fields_send = enum_send (enum_shape step.the_type) (
  tt,
  (
    (
      search (sendable, sharing_send, change_send, change_sync) depth 12,
      (search sendable depth 12, (search sendable depth 12, tt)),
    ),
    tt,
  ),
)

entry_send : IsSend entry.the_row
entry_send =
    recorded_send entry.the_field.row _ _ entry.the_type.to_one
    (enum_send (enum_shape entry.the_type) (
      search sendable depth 12,
      (
        (
          search sendable depth 12,
          (
            search sendable depth 12,
            (
              search (sendable, items_send) depth 12,
              (search sendable depth 12, (step_fields_send, tt)),
            ),
          ),
        ),
        (
          search sendable depth 12,
          (search sendable depth 12, (search (sendable, items_send) depth 12, tt)),
        ),
      ),
    ))

journal_send : IsSend journal.the_row
journal_send = search (sendable, crosses, entry_send) depth 20

node_send : IsSend node.the_row
node_send = search (sendable, piece_send) depth 20

order_send : IsSend order.the_row
order_send = search sendable depth 20

key_send : IsSend key.the_row
key_send = search sendable depth 20

pool_send : IsSend pool.the_row
pool_send = search (sendable, crosses, key_send) depth 20

workspace_send : IsSend workspace.the_row
workspace_send = search (sendable, items_send, sharing_send, problem_send, problem_sync) depth 20

tree_send : IsSend tree.the_row
tree_send = search (sendable, crosses, journal_send, node_send, pool_send, workspace_send) depth 20

-- the tree under a lock may go to another thread
pub locked_send : IsSend locked.the_row
locked_send = search (sendable, tree_send) depth 20

-- so may a seat at it, and the tree may be shared
pub tree_seat_send : IsSend (seat.the_row locked.the_row entry.the_row base.the_row ghosts)
tree_seat_send = seat_send locked.the_row entry.the_row base.the_row ghosts locked_send

pub shared_tree_sync : IsSync shared.the_row
shared_tree_sync =
    recorded_sync shared.the_field.row _ _ shared.the_type.to_one
    (struct_sync (shape shared.the_type)
    (turn_fields_sync locked.the_row entry.the_row base.the_row ghosts locked_send, tt))
