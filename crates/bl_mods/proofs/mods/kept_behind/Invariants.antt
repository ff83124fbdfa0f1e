use Rattle.std.proofs.Common.{◌≡◌, ◌+◌, ◌≤◌, length, drop, true, ◌++◌}
use Rattle.bl_mods.specs.Mods.{kept_from}
use Rattle.bl_mods.specs.Rising.{is_rising_from}
use Rattle.bl_mods.proofs.mods.kept_behind.Given as goal

abbrev pub invariant-loop-at : goal.invariant-loop-at
invariant-loop-at g l = record {
  rest : l.rest ++ kept_from (l.start + l.at) (drop l.next l.places) (drop l.at l.list)
      ≡ kept_from l.start l.places l.list;
  rising : is_rising_from (l.start + l.at) (drop l.next l.places) ≡ true;
  next : l.next ≤ length l.places;
}
