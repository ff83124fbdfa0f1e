use Rattle.bl_num.proofs.Readings.{decimal_of-ok}
use Rattle.bl_num.proofs.laws.read_numbers_are_canonical.Goals as goal

pub returns : goal.returns
returns c = decimal_of-ok
