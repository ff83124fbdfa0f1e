use Rattle.std.proofs.Common.{◌≡◌, ◌+◌, ◌∙◌, ap, sym, arith, pos, ◌-ℤ◌, ◌+ℤ◌}
use Rattle.std.proofs.lemmas.Int.{ints}
use Rattle.bl_num.specs.declared.read.Digits.{Digits}
use Rattle.bl_num.specs.Decimals.{settled}
use Rattle.bl_num.proofs.Meant.{meant-zero, meant-kept}
use Rattle.bl_num.proofs.read.settle_digits.Goals as goal

pub returns-then-digits-eq0 : goal.returns-then-digits-eq0
returns-then-digits-eq0 c =
    λ ds e. sym (meant-zero c.args.minus ds c.args.behind c.args.exponent
    (ap (λ (d : Digits). d.mantissa) (sym e) ∙ c.if-digits-eq0.true))

pub returns-then-exponent-lt0 : goal.returns-then-exponent-lt0
returns-then-exponent-lt0 c = λ ds e.
    let x : pos c.args.digits.zeros -ℤ pos (c.args.behind + c.unsigned_abs-size.result)
    ≡ (c.args.exponent -ℤ pos c.args.behind) +ℤ pos c.args.digits.zeros = omega (arith, ints) in
    c.settle.ensures ∙ ap (settled c.args.minus c.args.digits.mantissa) x
    ∙ sym (meant-kept c.args.minus ds c.args.digits c.args.behind c.args.exponent e
    (omega arith))

pub returns-else-exponent-lt0 : goal.returns-else-exponent-lt0
returns-else-exponent-lt0 c = λ ds e.
    let x : pos (c.args.digits.zeros + c.unsigned_abs-size.result) -ℤ pos c.args.behind
    ≡ (c.args.exponent -ℤ pos c.args.behind) +ℤ pos c.args.digits.zeros = omega (arith, ints) in
    c.settle-else-exponent-lt0.ensures ∙ ap (settled c.args.minus c.args.digits.mantissa) x
    ∙ sym (meant-kept c.args.minus ds c.args.digits c.args.behind c.args.exponent e
    (omega arith))
