use Rattle.std.proofs.Common.{◌≡◌, ◌++◌, codes, drop, map}
use Rattle.bl_write.specs.Layout.{ended}
use Rattle.bl_write.specs.Written.{nonzero, number_line, range_of}
use Rattle.bl_write.proofs.sets.push_widths.Given as goal

abbrev pub invariant-loop-i : goal.invariant-loop-i
invariant-loop-i l =
    l.text.items ++ ended (map (number_line (codes "RNG")) (nonzero (map range_of (drop l.i l.problem.rows))))
    ≡ l.initial.text.items ++ ended (map (number_line (codes "RNG")) (nonzero (map range_of l.problem.rows)))
