use denote.RattleType.{RattleType}
use denote.Param.Send.{IsSend, IsSync, sendable, recorded_send, struct_send, param_sync}
use denote.Param.{param}
use denote.Struct.Declared.{shape}
use Rattle.std.specs.contracts.alloc.Global as Heap
use Rattle.bl_branch.specs.contracts.rule.BranchRule as rule
use Rattle.bl_journal.specs.contracts.entry.Entry as entry
use Rattle.bl_shared.specs.contracts.locked.LockedTree as locked
use Rattle.bl_shared.specs.contracts.locked.TreeBase as base
use Rattle.bl_shared.specs.contracts.locked.LockedTreeTold.TheImpl.{ghosts}
use Rattle.bl_turn.proofs.Crosses.{seat_fields_send}
use Rattle.bl_shared.proofs.Crosses.{locked_send, problem_sync, shared_tree_sync}
use Rattle.bl_worker.specs.contracts.run.Job as job
use Rattle.bl_worker.proofs.run.run_all.Lts.{arg-0-2}
use Rattle.bl_worker.proofs.run.run_all.Goals as goal

job_send : IsSend job.the_row
job_send = recorded_send job.the_field.row _ _ job.the_type.to_one
    (struct_send (shape job.the_type) (
      seat_fields_send locked.the_row entry.the_row base.the_row
          ghosts locked_send,
      (search sendable depth 12, tt),
    ))

heap_sync : IsSync Heap.the_row
heap_sync = search sendable depth 20

pub for_each_mut-requires-send-T : goal.for_each_mut-requires-send-T
for_each_mut-requires-send-T g c κs within = search (sendable, job_send) depth 20

rule_sync : (F : RattleType) → IsSync F → IsSync (rule.the_row F)
rule_sync F closure = search sendable depth 20

the_sync : (R G F S : RattleType) (a b c d e f h i j k l m : _) (κs : _) → IsSync (param 0 R)
    → IsSync (param 1 G) → IsSync (param 2 F) → IsSync (param 3 S)
    → IsSync (arg-0-2 R G F S a b c d e f h i j k l m κs)
the_sync R G F S a b c d e f h i j k l m κs x y z w =
    search (sendable, heap_sync, shared_tree_sync, problem_sync, rule_sync) depth 14 fits 40000

pub for_each_mut-requires-sync-F : goal.for_each_mut-requires-sync-F
for_each_mut-requires-sync-F g c κs within =
    let x : IsSync (arg-0-2 g.row.R g.row.G g.row.F g.row.S g.R.laws g.G.laws g.F.laws g.S.laws
    g.R.Threads-dict g.R.Wait-dict g.G.Gate-dict g.F.Fn-dict g.F.FnMut-dict g.F.FnOnce-dict
    g.S.Separate-dict g.F.Destruct-dict κs) =
    the_sync g.row.R g.row.G g.row.F g.row.S g.R.laws g.G.laws g.F.laws g.S.laws
    g.R.Threads-dict g.R.Wait-dict g.G.Gate-dict g.F.Fn-dict g.F.FnMut-dict g.F.FnOnce-dict
    g.S.Separate-dict g.F.Destruct-dict κs c.type_bounds.sync-R c.type_bounds.sync-G
    c.type_bounds.sync-F c.type_bounds.sync-S in
    param_sync 2 (arg-0-2 g.row.R g.row.G g.row.F g.row.S g.R.laws g.G.laws g.F.laws g.S.laws
    g.R.Threads-dict g.R.Wait-dict g.G.Gate-dict g.F.Fn-dict g.F.FnMut-dict g.F.FnOnce-dict
    g.S.Separate-dict g.F.Destruct-dict κs) x
