use Rattle.std.proofs.Common.{◌≤◌}
use Rattle.bl_factor.specs.Sparse.{IsSparse}
use Rattle.bl_simplex.proofs.basis.push_entries.Given as goal

abbrev pub invariant-loop-coefficient : goal.invariant-loop-coefficient
invariant-loop-coefficient l =
    record { sparse : IsSparse 0 l.next l.entries.items; below : l.next ≤ l.size }
