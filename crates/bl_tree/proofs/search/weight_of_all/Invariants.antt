use Rattle.std.proofs.Common.{◌≡◌, ◌≤◌, ◌*◌, ◌^◌}
use Rattle.std.specs.Prelude.{take, sum_by}
use Rattle.bl_tree.specs.Records.{weight_if}
use Rattle.bl_tree.proofs.search.weight_of_all.Given as goal

abbrev pub invariant-loop-record : goal.invariant-loop-record
invariant-loop-record l = record {
  exact : l.sum ≡ sum_by (λ r. weight_if r.piece) (take l.record-index l.records);
  small : l.sum ≤ l.record-index * 2 ^ 36;
}
