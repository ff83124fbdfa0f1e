use Rattle.std.proofs.Common.{◌≤◌, ◌-◌, take}
use Rattle.bl_factor.specs.Support.{IsRising}
use Rattle.bl_factor.proofs.support.support_of.Given as goal

abbrev pub invariant-loop-place : goal.invariant-loop-place
invariant-loop-place l = record {
  filled : l.filled ≤ l.place;
  count : l.count ≤ l.filled;
  flagged : IsRising 0 l.place (take l.count l.flagged);
  others : IsRising 0 l.place (take (l.filled - l.count) l.others);
}
