use Rattle.std.proofs.Common.{◌≡◌, take, map}
use Rattle.bl_cover.specs.Greedy.{column_of}
use Rattle.bl_cover.proofs.greedy.columns_of.Given as goal

abbrev pub invariant-loop-candidate : goal.invariant-loop-candidate
invariant-loop-candidate l = map column_of (take l.candidate-index l.taken) ≡ l.columns.items
