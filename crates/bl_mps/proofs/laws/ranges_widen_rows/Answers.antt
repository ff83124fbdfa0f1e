use Rattle.bl_mps.proofs.RowLaws.{ranges_widen}
use Rattle.bl_mps.proofs.laws.ranges_widen_rows.Goals as goal

pub returns : goal.returns
returns c = ranges_widen
