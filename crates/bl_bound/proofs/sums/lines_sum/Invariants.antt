use Rattle.std.proofs.Common.{◌≡◌}
use Rattle.bl_num.specs.Checked.{checked_sum}
use Rattle.bl_bound.specs.Lines.{lines_of}
use Rattle.bl_bound.specs.Bounds.{line_value}
use Rattle.bl_bound.proofs.sums.lines_sum.Given as goal

abbrev pub invariant-loop-i : goal.invariant-loop-i
invariant-loop-i l = checked_sum l.initial.sum l.i (line_value (lines_of l.rows l.cuts) l.y) ≡ l.sum
