use Rattle.std.proofs.Common.{◌≡◌, take, vec_capacity}
use Rattle.bl_tree.proofs.numbers.copy_into.Given as goal

abbrev pub invariant-loop-i : goal.invariant-loop-i
invariant-loop-i l = record {
  copied : l.copy.items ≡ take l.i l.ids;
  room : vec_capacity l.copy ≡ vec_capacity l.fn.copy;
}
