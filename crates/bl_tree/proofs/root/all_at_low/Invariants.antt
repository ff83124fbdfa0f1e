use Rattle.std.proofs.Common.{◌≡◌}
use Rattle.std.specs.Prelude.{replicate}
use Rattle.bl_desc.specs.declared.desc.Status.TheVariants.{AtLow}
use Rattle.bl_tree.proofs.root.all_at_low.Given as goal

abbrev pub invariant-loop : goal.invariant-loop
invariant-loop l = l.list ≡ replicate l.counter AtLow
