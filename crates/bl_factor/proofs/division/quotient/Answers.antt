use Rattle.std.proofs.Common.{sym, FitsSigned, rules}
use Rattle.std.specs.Int.{w128}
use Rattle.bl_factor.proofs.Numbers.{is_nought-true, is_nought-yes, quotient-nought}
use Rattle.bl_factor.proofs.division.quotient.Goals as goal

pub returns-then-number-eq0 : goal.returns-then-number-eq0
returns-then-number-eq0 c =
    let x = c.args.number in
    let f : FitsSigned w128 x.raw = search rules in
    sym (quotient-nought x c.args.pivot
    (is_nought-true x (is_nought-yes x f c.if-number-eq0.true)) c.requires)
