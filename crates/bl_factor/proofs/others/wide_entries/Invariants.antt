use Rattle.std.proofs.Common.{get_or, length}
use Rattle.bl_factor.specs.Sparse.{AreBeside}
use Rattle.bl_factor.proofs.others.wide_entries.Given as goal

-- the entries so far are below the place that comes now
abbrev pub invariant-loop-listed : goal.invariant-loop-listed
invariant-loop-listed l = AreBeside (get_or l.places l.listed-index (length l.column)) l.except
    l.entries.items
