use Rattle.std.proofs.Common.{arith}
use Rattle.bl_num.proofs.Powers.{ten_pow-le}
use Rattle.bl_cards.proofs.number.is_far.Goals as goal

pub pow-requires : goal.pow-requires
pow-requires c = let p = ten_pow-le c.args.number.places 27 c.requires in omega (arith, p)

pub overflow_mul-result : goal.overflow_mul-result
overflow_mul-result c = let p =
    ten_pow-le c.args.number.places 27 c.requires in omega (arith, p, c.pow.ensures)
