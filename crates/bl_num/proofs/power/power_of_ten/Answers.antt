use Rattle.std.proofs.Common.{arith}
use Rattle.bl_num.proofs.Powers.{ten_pow-le, ten_pow-positive}
use Rattle.bl_num.proofs.power.power_of_ten.Goals as goal

pub pow-requires : goal.pow-requires
pow-requires c = omega (arith, ten_pow-le c.args.exponent 28 c.requires)

pub returns-clause-positive : goal.returns-clause-positive
returns-clause-positive c = omega (arith, ten_pow-positive c.args.exponent)

pub returns-clause-small : goal.returns-clause-small
returns-clause-small c = omega (arith, ten_pow-le c.args.exponent 28 c.requires)
