use Rattle.std.proofs.Common.{◌≡◌, ◌≤◌, ◌-◌, vec_len, vec_capacity}
use Rattle.bl_turn.specs.Seats.{view_of}
use Rattle.bl_shared.specs.Calls.{IsSeatOf}
use Rattle.bl_worker.specs.Jobs.{AreWorkerSeats}
use Rattle.bl_worker.proofs.run.split_all.Given as goal

abbrev pub invariant-seats : goal.invariant-seats
invariant-seats l =
    IsSeatOf l.tree l.seat
    × (view_of l.seat ≡ record (view_of l.initial.seat) { given = vec_len l.jobs })
    × AreWorkerSeats l.tree (view_of l.initial.seat) l.jobs.items
    × (vec_len l.jobs ≤ l.workers) × (l.workers ≤ vec_capacity l.jobs)

abbrev pub decreases-seats : goal.decreases-seats
decreases-seats l = l.workers - vec_len l.jobs
