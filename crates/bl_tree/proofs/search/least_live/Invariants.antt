use Rattle.std.proofs.Common.{◌≡◌}
use Rattle.std.specs.Prelude.{take}
use Rattle.bl_tree.specs.Records.{least_if, live_lows}
use Rattle.bl_tree.proofs.search.least_live.Given as goal

abbrev pub invariant-loop-record : goal.invariant-loop-record
invariant-loop-record l = l.least ≡ least_if (live_lows l.cutoff (take l.record-index l.records))
