use Rattle.bl_num.proofs.Readings.{units_keep_value}
use Rattle.bl_num.proofs.laws.units_keep_the_value.Goals as goal

pub returns : goal.returns
returns c = units_keep_value
