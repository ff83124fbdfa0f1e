use Rattle.bl_num.proofs.Roundings.{floor_is_greatest, ceiling_is_least}
use Rattle.bl_num.proofs.laws.quotients_are_rounded.Goals as goal

pub returns : goal.returns
returns c = record { down = floor_is_greatest; up = ceiling_is_least }
