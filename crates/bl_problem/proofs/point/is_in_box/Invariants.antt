use Rattle.std.proofs.Common.{ℕ, ◌<◌, ◌≤ℤ◌}
use Rattle.bl_num.specs.Exact.{at}
use Rattle.bl_problem.specs.Points.{lows_of, highs_of}
use Rattle.bl_problem.proofs.point.is_in_box.Given as goal

abbrev pub invariant-loop-j : goal.invariant-loop-j
invariant-loop-j l = (k : ℕ) → k < l.j → (at (lows_of l.columns) k ≤ℤ at l.point k)
    × (at l.point k ≤ℤ at (highs_of l.columns) k)
