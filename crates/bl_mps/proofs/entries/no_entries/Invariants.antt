use Rattle.std.proofs.Common.{◌≡◌, [], replicate}
use Rattle.bl_mps.proofs.entries.no_entries.Given as goal

abbrev pub invariant-loop : goal.invariant-loop
invariant-loop l = l.entries.items ≡ replicate l.counter []
