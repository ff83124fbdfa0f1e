use Rattle.std.proofs.Common.{arith}
use Rattle.bl_num.proofs.Powers.{ten_pow-le}
use Rattle.bl_run.proofs.Units.{units-small}
use Rattle.bl_run.proofs.top.in_units.Goals as goal

pub pow-requires : goal.pow-requires
pow-requires c = let p = ten_pow-le c.args.scale 27 c.requires.scale in omega (arith, p)

pub overflow_mul-result : goal.overflow_mul-result
overflow_mul-result c =
    let p = units-small c.args.number c.args.scale c.requires.few c.requires.scale in
    rw (c.from.ensures, c.pow.ensures) (omega (arith, p))

pub returns-clause-small : goal.returns-clause-small
returns-clause-small c =
    rw (c.from.ensures, c.pow.ensures)
    (units-small c.args.number c.args.scale c.requires.few c.requires.scale)
