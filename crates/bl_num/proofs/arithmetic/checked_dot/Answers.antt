use Rattle.std.proofs.Common.{length}
use Rattle.bl_num.specs.Exact.{product_at}
use Rattle.bl_num.proofs.Partials.{checked_sum_iff}
use Rattle.bl_num.proofs.arithmetic.checked_dot.Goals as goal

pub returns : goal.returns
returns c = checked_sum_iff (product_at c.args.a.now c.args.b.now) (length c.args.a.now) _
    c.dot.ensures
