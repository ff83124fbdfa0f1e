use Rattle.std.proofs.Common.{◌≡◌, ◌++◌, drop}
use Rattle.bl_write.specs.Cursors.{AreAt}
use Rattle.bl_write.specs.Layout.{ended}
use Rattle.bl_write.specs.Written.{cells_lines}
use Rattle.bl_write.proofs.cells.push_cells.Given as goal

abbrev pub invariant-loop-j : goal.invariant-loop-j
invariant-loop-j l =
    (l.text.items ++ ended (cells_lines l.problem l.j (drop l.j l.problem.columns))
    ≡ l.initial.text.items ++ ended (cells_lines l.problem 0 l.problem.columns))
    × AreAt l.problem l.cursors.items l.j
