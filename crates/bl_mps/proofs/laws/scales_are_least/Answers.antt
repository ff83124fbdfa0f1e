use Rattle.bl_mps.proofs.RowLaws.{scale_is_least}
use Rattle.bl_mps.proofs.laws.scales_are_least.Goals as goal

pub returns : goal.returns
returns c = scale_is_least
