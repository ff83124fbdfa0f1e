use Rattle.std.proofs.Common.{◌≡◌, ◌≤◌, ◌<◌, ◌^◌, ◌++◌}
use Rattle.bl_num.specs.Decimals.{trimmed}
use Rattle.bl_num.specs.Texts.{padded}
use Rattle.bl_num.proofs.text.push_digits.Given as goal

abbrev pub invariant-loop-rest : goal.invariant-loop-rest
invariant-loop-rest l = record {
  few : l.left ≤ 27;
  below_one : l.rest < 10 ^ l.left;
  written : l.text.items ++ trimmed (padded l.left l.rest) ≡ l.initial.text.items
      ++ trimmed (padded l.initial.left l.initial.rest);
}

abbrev pub decreases-loop-rest : goal.decreases-loop-rest
decreases-loop-rest l = l.left
