use Rattle.std.proofs.Common.{◌≡◌, length}
use Rattle.bl_factor.proofs.KeptLemmas.{AreUnits}
use Rattle.bl_factor.proofs.Factor.identity.Given as goal

abbrev pub invariant-loop-place : goal.invariant-loop-place
invariant-loop-place l = record {
  long : length l.columns.items ≡ l.place;
  units : AreUnits l.columns.items;
}
