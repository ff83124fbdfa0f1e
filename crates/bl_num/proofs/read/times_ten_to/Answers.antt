use Rattle.std.proofs.Common.{arith}
use Rattle.bl_num.proofs.Powers.{times_ten_pow-le}
use Rattle.bl_num.proofs.read.times_ten_to.Goals as goal

pub returns-then-exponent-gt28 : goal.returns-then-exponent-gt28
returns-then-exponent-gt28 c = omega
    (arith, times_ten_pow-le c.args.mantissa 28 c.args.exponent (omega arith) (omega arith))
