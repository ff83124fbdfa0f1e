use Rattle.std.proofs.Common.{◌≡◌, ◌≤◌, ◌^◌, ◌-◌}
use Rattle.std.specs.Prelude.{MatchOption}
use Rattle.bl_factor.specs.Support.{IsPivotRow}
use Rattle.bl_factor.proofs.anew.largest_row.Given as goal

abbrev pub invariant-loop-listed : goal.invariant-loop-listed
invariant-loop-listed l = record {
  pivot : MatchOption l.largest (l.most ≡ 2 ^ 20 - 1) (IsPivotRow l.image);
  least : 2 ^ 20 - 1 ≤ l.most;
}
