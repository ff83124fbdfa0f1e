use Rattle.std.proofs.Common.{◌≡◌, ◌≤◌, ◌<◌, ℕ, drop, length}
use Rattle.bl_num.specs.Exact.{at}
use Rattle.bl_problem.specs.Rows.{coefficient_of}
use Rattle.bl_mps.proofs.entries.dense.Given as goal

abbrev pub invariant-loop-left : goal.invariant-loop-left
invariant-loop-left l = record {
  few : l.left ≤ length l.terms;
  width : length l.numbers.items ≡ l.columns;
  numbers : (j : ℕ) → j < l.columns → at l.numbers.items j ≡ coefficient_of (drop l.left l.terms) j;
}

abbrev pub decreases-loop-left : goal.decreases-loop-left
decreases-loop-left l = l.left
