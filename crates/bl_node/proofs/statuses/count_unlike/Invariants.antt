use Rattle.std.proofs.Common.{◌≡◌, ◌≤◌, take}
use Rattle.bl_mods.proofs.Diffing.{unlike}
use Rattle.bl_desc.specs.Changes.{same_status}
use Rattle.bl_node.proofs.statuses.count_unlike.Given as goal

abbrev pub invariant-loop-j : goal.invariant-loop-j
invariant-loop-j l = record {
  few : l.count ≤ l.j;
  counted : l.count ≡ unlike same_status (take l.j l.fn.old) (take l.j l.fn.new);
}
