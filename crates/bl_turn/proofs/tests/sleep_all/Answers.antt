use denote.RattleType.{RattleType}
use denote.Param.Send.{IsSend, IsSync, sendable}
use Rattle.std.proofs.Crossing.{crosses}
use Rattle.bl_turn.specs.declared.told.Told.{Ghosts}
use Rattle.bl_turn.specs.contracts.tests.Log as log
use Rattle.bl_turn.specs.contracts.turn.Turn as turn
use Rattle.bl_turn.proofs.Crosses.{seat_send, turn_sync}
use Rattle.bl_turn.proofs.tests.sleep_all.Goals as goal

log_turn_sync : (E B : RattleType) (g : Ghosts (log.the_row).Denot E.Denot B.Denot)
    → IsSync (turn.the_row log.the_row E B g)
log_turn_sync E B g = let log_send : IsSend log.the_row =
    search (sendable, crosses) depth 20 in turn_sync log.the_row E B g log_send

pub for_each_mut-requires-send-T : goal.for_each_mut-requires-send-T
for_each_mut-requires-send-T g c κs within = search (sendable, crosses, seat_send) depth 20

pub for_each_mut-requires-sync-F : goal.for_each_mut-requires-sync-F
for_each_mut-requires-sync-F g c κs within = search (sendable, log_turn_sync) depth 20
