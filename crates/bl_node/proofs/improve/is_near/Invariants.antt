use Rattle.std.proofs.Common.{ℕ, ◌<◌, ◌^◌}
use Rattle.std.specs.Prelude.{slice_index_or}
use Rattle.bl_problem.specs.Sums.{IsWithin}
use Rattle.bl_fixed.specs.declared.Fixed.{Fixed}
use Rattle.bl_node.proofs.improve.is_near.Given as goal

abbrev pub invariant-loop-entry : goal.invariant-loop-entry
invariant-loop-entry l = (k : ℕ) (d : Fixed) → k < l.entry-index
    → IsWithin (2 ^ 70) (slice_index_or l.fn.point k d).raw
