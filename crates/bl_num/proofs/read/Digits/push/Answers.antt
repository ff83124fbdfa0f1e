use Rattle.std.proofs.Common.{◌≡◌, eqb, false}
use Rattle.std.proofs.lemmas.Bool.{ne_eqb}
use Rattle.bl_num.proofs.Kept.{kept_of-zero, kept_of-digit}
use Rattle.bl_num.proofs.read.Digits.push.Goals as goal

pub returns-then-digit-eq48-clause-kept : goal.returns-then-digit-eq48-clause-kept
returns-then-digit-eq48-clause-kept c =
    λ ds e. rw c.if-digit-eq48.true (kept_of-zero ds c.args.self e)

pub returns-clause-kept : goal.returns-clause-kept
returns-clause-kept c = λ ds e.
    let other : eqb c.args.digit 48 ≡ false = ne_eqb c.args.digit 48 c.if-digit-eq48.false in
    rw (c.min-mantissa.ensures, c.from.ensures, c.times_ten_to-front.ensures)
    (kept_of-digit ds c.args.self c.args.digit e other)
