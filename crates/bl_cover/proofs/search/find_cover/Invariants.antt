use Rattle.std.proofs.Common.{◌<◌, ℕ}
use Rattle.bl_cover.specs.Covers.{row_at}
use Rattle.bl_cover.specs.Greedy.{HasNoGreedyCover}
use Rattle.bl_cover.proofs.search.find_cover.Given as goal

abbrev pub invariant-loop-row : goal.invariant-loop-row
invariant-loop-row l = (k : ℕ) → k < l.row → HasNoGreedyCover l.problem.columns l.point
    (row_at l.problem.rows k)
