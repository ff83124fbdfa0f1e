use Rattle.bl_shared.proofs.Later.{lease_later, put_later}
use Rattle.bl_shared.proofs.laws.leases_outlast_others.Goals as goal

pub returns : goal.returns
returns c = record {
  lease = lease_later;
  outcome = put_later;
}
