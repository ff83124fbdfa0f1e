use Rattle.std.proofs.Common.{◌≡◌, ◌≤◌, length}
use Rattle.std.specs.Prelude.{All}
use Rattle.bl_node.specs.Names.{AreNumbered, IsRenamedFrom}
use Rattle.bl_node.proofs.dropping.tight_cuts.Given as goal

abbrev pub invariant-loop-at : goal.invariant-loop-at
invariant-loop-at l = record {
  numbered : AreNumbered l.seat l.serial l.tight.cuts;
  few : length l.tight.cuts ≤ l.at;
  from : All (IsRenamedFrom l.cuts) l.tight.cuts;
  statuses : length l.tight.statuses ≡ length l.tight.cuts;
  count : l.tight.count ≡ length l.tight.cuts;
}
