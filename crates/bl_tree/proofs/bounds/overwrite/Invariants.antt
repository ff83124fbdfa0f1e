use Rattle.std.proofs.Common.{◌≡◌, take, length}
use Rattle.bl_tree.proofs.bounds.overwrite.Given as goal

abbrev pub invariant-loop-i : goal.invariant-loop-i
invariant-loop-i l = record {
  written : take l.i l.list ≡ take l.i l.values;
  long : length l.list ≡ length l.values;
}
