use Rattle.std.proofs.Common.{◌≡◌, length}
use Rattle.bl_factor.proofs.anew.open_places.Given as goal

abbrev pub invariant-loop-column : goal.invariant-loop-column
invariant-loop-column l = length l.is_open.items ≡ l.column-index
