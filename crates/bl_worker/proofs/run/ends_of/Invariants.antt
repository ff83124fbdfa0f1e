use Rattle.std.proofs.Common.{◌≡◌, ◌≤◌, length, map, take, vec_capacity}
use Rattle.bl_worker.specs.declared.run.Job.{Job}
use Rattle.bl_worker.proofs.run.ends_of.Given as goal

abbrev pub invariant-loop-job : goal.invariant-loop-job
invariant-loop-job l = (l.ends.items ≡ map (λ (j : Job). j.end) (take l.job-index l.jobs))
    × (length l.jobs ≤ vec_capacity l.ends)
