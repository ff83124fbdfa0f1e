use Rattle.bl_journal.proofs.Growth.{node_at-later, full-later}
use Rattle.bl_journal.proofs.laws.nodes_are_stable.Goals as goal

pub returns : goal.returns
returns c = λ p history rest id born. record {
  node = node_at-later p history rest id born;
  description = full-later p history rest id born;
}
