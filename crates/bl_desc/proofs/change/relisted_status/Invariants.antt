use Rattle.std.proofs.Common.{◌≡◌, ◌++◌}
use Rattle.std.specs.Prelude.{replicate}
use Rattle.bl_desc.specs.declared.desc.Status.TheVariants.{AtLow}
use Rattle.bl_desc.proofs.change.relisted_status.Given as goal

abbrev pub invariant-loop : goal.invariant-loop
invariant-loop g l = l.after ≡ l.initial.after ++ replicate l.counter AtLow
