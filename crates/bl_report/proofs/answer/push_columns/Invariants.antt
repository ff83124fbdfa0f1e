use Rattle.std.proofs.Common.{◌≡◌, ◌++◌, drop}
use Rattle.bl_report.specs.Texts.{column_lines}
use Rattle.bl_report.proofs.answer.push_columns.Given as goal

abbrev pub invariant-loop-j : goal.invariant-loop-j
invariant-loop-j l = l.text.items ++ column_lines (drop l.j l.columns) (drop l.j l.point)
    ≡ l.initial.text.items ++ column_lines l.columns l.point
