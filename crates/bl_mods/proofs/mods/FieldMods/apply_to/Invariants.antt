use Rattle.std.proofs.Common.{◌≡◌, ◌<◌, length, drop}
use Rattle.std.specs.Prelude.{All}
use Rattle.bl_mods.specs.Mods.{written}
use Rattle.bl_mods.proofs.mods.FieldMods.apply_to.Given as goal

abbrev pub invariant-loop-m : goal.invariant-loop-m
invariant-loop-m g l = record {
  rest : written (drop l.m-index l.m-items) l.list ≡ written l.m-items l.initial.list;
  fits : All (λ m. m.place < length l.list) l.m-items;
}
