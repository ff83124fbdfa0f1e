use Rattle.std.proofs.Common.{sym, FitsSigned, rules}
use Rattle.std.specs.Int.{w128}
use Rattle.bl_factor.specs.Others.{narrow_number}
use Rattle.bl_factor.proofs.Numbers.{is_nought-true, is_nought-yes, less_product-nought}
use Rattle.bl_factor.proofs.others.less_half_narrow.Goals as goal

pub returns-then-b-eq0 : goal.returns-then-b-eq0
returns-then-b-eq0 c =
    let x = c.args.b in
    let f : FitsSigned w128 x.raw = search rules in
    let g : FitsSigned w128 c.args.number.raw = search rules in
    sym (less_product-nought c.args.number (narrow_number c.args.a) x
    (is_nought-true x (is_nought-yes x f c.if-b-eq0.true)) g)
