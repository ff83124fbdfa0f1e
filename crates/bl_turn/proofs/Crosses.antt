-- Where the value may go to another thread, so may a seat, and the lock may be shared.
-- A caller's goal `..-requires-send-..` on seats: `search (sendable, crosses, seat_send) depth 20`.
-- A goal `..-requires-sync-..` on a closure that borrows a lock: state `turn_sync` at the
-- caller's own value, as `log_turn_sync : (E B : RattleType) (g : Ghosts (log.the_row).Denot
-- E.Denot B.Denot) → IsSync (turn.the_row log.the_row E B g)`, and then `search (sendable,
-- log_turn_sync) depth 20`. Where a seat or a lock is a field of another struct, that struct's
-- goal asks for the field's own row: `seat_fields_send`, `turn_fields_sync`.
use denote.RattleType.{RattleType}
use denote.Param.Send.{IsSend, IsSync, Frees, sendable, part_keyless}
use denote.Struct.Struct.{Struct}
use denote.Struct.Owning.{shape}
use Rattle.std.proofs.Crossing.{crosses, frees}
use Rattle.std.specs.declared.alloc.Allocator.{Ghosts as AllocatorGhosts}
use Rattle.std.specs.contracts.snapshot.Snapshot as snapshot
use Rattle.atomic_table.specs.contracts.send_lease.SendLease as lease
use Rattle.atomic_table.specs.contracts.shared.Seat as table_seat
use Rattle.atomic_table.specs.contracts.shared.Shared as shared
use Rattle.atomic_table.specs.declared.shared.TableRule.{Ghosts as RuleGhosts}
use Rattle.atomic_table.proofs.Rights.{right_send}
use Rattle.atomic_table.proofs.Sent.{seat_keyless, shares_keyless}
use Rattle.bl_turn.specs.declared.told.Told.{Ghosts}
use Rattle.bl_turn.specs.contracts.view.Account as account
use Rattle.bl_turn.specs.contracts.view.Slot as slot
use Rattle.bl_turn.specs.contracts.seat.Seat as seat
use Rattle.bl_turn.specs.contracts.turn.Turn as turn

note_send : (V : RattleType) → IsSend (snapshot.the_row V)
note_send V = record {
  owned = λ d vs. ((λ vss. (tt, ((λ uss. (tt, tt)), tt))), tt);
  leaving =
      λ k f vs. tt;
}

slot_send : (V : RattleType) → IsSend V → IsSend (slot.the_row V)
slot_send V value = let note = note_send V in search sendable depth 20

place_send : (S A : RattleType) → IsSend S → IsSend (table_seat.the_row S A)
place_send S A slots =
    record {
      owned =
          λ d vs. (
            (λ vss. (tt, ((λ uss. (tt, tt)), tt))),
            seat_keyless S slots A.coded.code d.table_id
                d.id d.me,
          );
      leaving = λ k f vs. tt;
    }

-- a seat may go to another thread
pub seat_send : (V E B : RattleType) (g : Ghosts V.Denot E.Denot B.Denot) → IsSend V
    → IsSend (seat.the_row V E B g)
seat_send V E B g value = let place =
    place_send (slot.the_row V) (account.the_row E B) (slot_send V value) in search sendable depth
    20

-- a seat that is a field of a struct may go there with it
pub seat_fields_send : (V E B : RattleType) (g : Ghosts V.Denot E.Denot B.Denot) → IsSend V
    → IsSend (seat.the_field V E B g).row
seat_fields_send V E B g value = let place =
    place_send (slot.the_row V) (account.the_row E B) (slot_send V value) in search sendable depth
    20

shared_sync : (S A K P : RattleType) (g : RuleGhosts P.Denot S.Denot A.Denot K.Denot) → IsSend S
    → IsSync (shared.the_row S A K P g)
shared_sync S A K P g slots = let fields : IsSync (Struct (shape (shared.the_type S A K P g))) =
    search sendable depth 20 in
    record {
      shared =
          λ d b o ν. (
            fields.shared (d.words, (d.slots, (tt, tt))) b o ν,
            shares_keyless S slots
                A.coded.code d.table_id (g.holds d.key) d.words d.slots ν,
          );
    }

lease_sync : (T H : RattleType) (g : AllocatorGhosts H.Denot) → IsSend H → Frees g g.dealloc_token
    → IsSync (lease.the_row T H g)
lease_sync T H g heap free = record {
  shared =
      λ d b o ν q. part_keyless (lease.the_row T H g) (right_send T H g free) q d b o;
}

-- the lock may be shared
pub turn_sync : (V E B : RattleType) (g : Ghosts V.Denot E.Denot B.Denot) → IsSend V
    → IsSync (turn.the_row V E B g)
turn_sync V E B g value = let slots = slot_send V value in let free =
    frees in search (sendable, crosses, frees, shared_sync, lease_sync) depth 20

-- a lock that is a field of a struct may be shared with it
pub turn_fields_sync : (V E B : RattleType) (g : Ghosts V.Denot E.Denot B.Denot) → IsSend V
    → IsSync (turn.the_field V E B g).row
turn_fields_sync V E B g value = let slots = slot_send V value in let free =
    frees in search (sendable, crosses, frees, shared_sync, lease_sync) depth 20
