use Rattle.std.proofs.Common.{◌≡◌, ◌<◌, drop, ◌++◌}
use Rattle.std.specs.Prelude.{All}
use Rattle.bl_mods.specs.Mods.{differences, differences_from}
use Rattle.bl_mods.proofs.mods.FieldMods.differing.Given as goal

abbrev pub invariant-loop-at : goal.invariant-loop-at
invariant-loop-at g l = record {
  rest : l.mods ++ differences_from g.T.PartialEq.eq l.at (drop l.at l.old) (drop l.at l.new)
      ≡ differences g.T.PartialEq.eq l.old l.new;
  below : All (λ m. m.place < l.at) l.mods;
}
