use Rattle.std.proofs.Common.{◌≡◌, ◌++◌, drop}
use Rattle.bl_write.specs.Layout.{ended}
use Rattle.bl_write.specs.Written.{ends_lines}
use Rattle.bl_write.proofs.sections.push_ends.Given as goal

abbrev pub invariant-loop-column : goal.invariant-loop-column
invariant-loop-column l = l.text.items ++ ended (ends_lines (drop l.column-index l.columns))
    ≡ l.initial.text.items ++ ended (ends_lines l.columns)
