use Rattle.std.proofs.Common.{vec_len, All}
use Rattle.bl_turn.specs.Seats.{view_of}
use Rattle.bl_shared.specs.Calls.{IsSeatOf}
use Rattle.bl_worker.proofs.Joining.{Joining}
use Rattle.bl_worker.proofs.run.join_all.Given as goal

abbrev pub invariant-loop-job : goal.invariant-loop-job
invariant-loop-job l =
    IsSeatOf l.tree l.seat × Joining (view_of l.initial.seat) l.initial.jobs.items l.jobs.items
    (view_of l.seat) × All (λ j. IsSeatOf l.tree j.seat) l.jobs.items

abbrev pub decreases-loop-job : goal.decreases-loop-job
decreases-loop-job l = vec_len l.jobs
