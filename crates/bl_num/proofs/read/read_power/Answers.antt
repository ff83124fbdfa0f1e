use Rattle.std.proofs.Common.{arith}
use Rattle.std.proofs.lemmas.Int.{ints}
use Rattle.std.proofs.lemmas.Bool.Decides.{nat_tests}
use Rattle.bl_num.proofs.Fronts.{power_of-minus, power_of-plus}
use Rattle.bl_num.proofs.read.read_power.Goals as goal

pub returns-then-minus : goal.returns-then-minus
returns-then-minus c = power_of-minus c.args.text.now c.split_digits.result.0.now
    c.split_digits.result.1.now c.args.minus c.clipped_number-size.result _ c.if-minus.true
    c.split_digits.ensures.front c.split_digits.ensures.behind (grind (arith, nat_tests))
    (grind (arith, nat_tests)) c.clipped_number-size.ensures (omega (arith, ints))

pub returns-else-minus : goal.returns-else-minus
returns-else-minus c =
    power_of-plus c.args.text.now c.split_digits.result.0.now c.split_digits.result.1.now
    c.args.minus c.clipped_number-size.result _ c.if-minus.false c.split_digits.ensures.front
    c.split_digits.ensures.behind (grind (arith, nat_tests)) (grind (arith, nat_tests))
    c.clipped_number-size.ensures (omega (arith, ints))
