use Rattle.std.proofs.Common.{◌≡◌, ◌<◌, ◌≤◌, ◌+◌, ◌++◌, ℕ, drop, get_or, length, map}
use Rattle.bl_problem.specs.declared.problem.Column.{Column}
use Rattle.bl_problem.specs.declared.problem.Row.{Row}
use Rattle.bl_write.specs.Cursors.{IsAt}
use Rattle.bl_write.specs.Layout.{ended}
use Rattle.bl_write.specs.Written.{coefficient_in, nonzero, number_line}
use Rattle.bl_write.proofs.cells.push_coefficients.Given as goal

abbrev pub invariant-loop-i : goal.invariant-loop-i
invariant-loop-i l =
    ((c : Column) → l.text.items ++ ended (map (number_line (get_or l.problem.columns l.j c).name)
    (nonzero (map (coefficient_in l.j) (drop l.i l.problem.rows))))
    ≡ l.initial.text.items ++ ended (map (number_line (get_or l.problem.columns l.j c).name)
    (nonzero (map (coefficient_in l.j) l.problem.rows))))
    × (length l.cursors.items ≡ length l.problem.rows)
    × ((k : ℕ) (r : Row) → k < l.i → k < length l.problem.rows
    → IsAt (get_or l.problem.rows k r).terms (get_or l.cursors.items k 0) (l.j + 1))
    × ((k : ℕ) (r : Row) → l.i ≤ k → k < length l.problem.rows
    → IsAt (get_or l.problem.rows k r).terms (get_or l.cursors.items k 0) l.j)
