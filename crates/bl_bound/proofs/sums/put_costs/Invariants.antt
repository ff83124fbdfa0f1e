use Rattle.std.proofs.Common.{◌≡◌, ℕ, ◌<◌, ◌*ℤ◌, length}
use Rattle.bl_num.specs.Exact.{at}
use Rattle.bl_num.specs.Checked.{i128_of}
use Rattle.bl_problem.specs.Points.{costs_of}
use Rattle.bl_bound.specs.Bounds.{sum_at}
use Rattle.bl_bound.proofs.sums.put_costs.Given as goal

abbrev pub invariant-loop-j : goal.invariant-loop-j
invariant-loop-j l = record {
  width : length l.sums ≡ length l.columns;
  costs : (k : ℕ) → k < l.j → sum_at l.sums k ≡ i128_of (l.d *ℤ at (costs_of l.columns) k);
}
