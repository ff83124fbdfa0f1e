use Rattle.std.proofs.Common.{◌≡◌, ◌++◌, drop, map}
use Rattle.bl_problem.specs.declared.problem.Row.{Row}
use Rattle.bl_write.specs.Layout.{ended}
use Rattle.bl_write.specs.Written.{kind_of, row_line}
use Rattle.bl_write.proofs.sections.push_rows.Given as goal

abbrev pub invariant-loop-row : goal.invariant-loop-row
invariant-loop-row l =
    l.text.items ++ ended (map (λ (r : Row). row_line (kind_of r.low r.high) r.name)
    (drop l.row-index l.rows))
    ≡ l.initial.text.items ++ ended
    (map (λ (r : Row). row_line (kind_of r.low r.high) r.name) l.rows)
