use Rattle.std.proofs.Common.{◌≡◌, ◌++◌, codes, drop, map}
use Rattle.bl_write.specs.Layout.{ended}
use Rattle.bl_write.specs.Written.{nonzero, number_line, right_of}
use Rattle.bl_write.proofs.sets.push_right_sides.Given as goal

abbrev pub invariant-loop-row : goal.invariant-loop-row
invariant-loop-row l =
    l.text.items ++ ended (map (number_line (codes "RHS")) (nonzero (map right_of (drop l.row-index l.rows))))
    ≡ l.initial.text.items ++ ended (map (number_line (codes "RHS")) (nonzero (map right_of l.rows)))
