use Rattle.std.proofs.Common.{◌≡◌, ℕ, ◌<◌, length}
use Rattle.bl_num.specs.Checked.{checked_sum}
use Rattle.bl_bound.specs.Lines.{lines_of}
use Rattle.bl_bound.specs.Bounds.{sum_at, taken}
use Rattle.bl_bound.proofs.sums.take_lines.Given as goal

abbrev pub invariant-loop-i : goal.invariant-loop-i
invariant-loop-i l = record {
  width : length l.sums ≡ length l.initial.sums;
  sums : (j : ℕ) → j < length l.initial.sums → sum_at l.sums j
      ≡ checked_sum (sum_at l.initial.sums j) l.i (taken (lines_of l.rows l.cuts) l.y j);
}
