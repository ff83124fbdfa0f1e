use Rattle.std.proofs.Common.{◌≤◌}
use Rattle.bl_mods.proofs.mods.count_unlike.Given as goal

abbrev pub invariant-loop-at : goal.invariant-loop-at
invariant-loop-at g l = l.count ≤ l.at
