use Rattle.std.proofs.Common.{◌≢◌, ◌<◌, ℕ, slice_index_or}
use Rattle.bl_worker.specs.declared.worker.WorkerEnd.{WorkerEnd}
use Rattle.bl_worker.specs.declared.worker.WorkerEnd.TheVariants.{Memory}
use Rattle.bl_worker.proofs.search.any_failed.Given as goal

abbrev pub invariant-loop-end : goal.invariant-loop-end
invariant-loop-end l = (k : ℕ) (d : WorkerEnd) → k < l.end-index
    → slice_index_or l.ends k d ≢ Memory
