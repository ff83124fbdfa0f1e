use Rattle.std.proofs.Common.{◌≤◌, ◌<◌, FitsSigned, nat_abs, rules, arith, sym, ◌∙◌}
use Rattle.std.specs.Int.{w32}
use Rattle.std.proofs.lemmas.Int.{ints, to_z-of_z}
use Rattle.bl_num.proofs.DecimalSteps.{is_cut, reads_no_digit, reads_no_exponent, reads_wide}
use Rattle.bl_num.proofs.DecimalSteps.{reads_meant}
use Rattle.bl_num.proofs.Readings.{canonical_of, limits_of}
use Rattle.bl_num.proofs.read.read_decimal.Goals as goal

pub returns-then-whole-fraction-eq0-clause-value : goal.returns-then-whole-fraction-eq0-clause-value
returns-then-whole-fraction-eq0-clause-value c =
    let cut = is_cut _ _ _ _ _ _ c.after_sign.ensures c.split_digits.ensures.front
    c.split_digits.ensures.behind c.split_fraction.ensures.front
    c.split_fraction.ensures.behind in
    sym (reads_no_digit _ _ _ _ cut (omega arith))

pub returns-in_default-clause-value : goal.returns-in_default-clause-value
returns-in_default-clause-value c =
    let cut = is_cut _ _ _ _ _ _ c.after_sign.ensures c.split_digits.ensures.front
    c.split_digits.ensures.behind c.split_fraction.ensures.front
    c.split_fraction.ensures.behind in
    sym (reads_no_exponent _ _ _ _ cut (sym c.in_default.is ∙ c.read_exponent.ensures))

pub returns-then-unsigned_abs-gt27-clause-value : goal.returns-then-unsigned_abs-gt27-clause-value
returns-then-unsigned_abs-gt27-clause-value c =
    let fits : FitsSigned w32 c.in-Some.exponent = search rules in
    let wide : 27 < nat_abs c.in-Some.exponent =
    omega (arith, ints, simp to_z-of_z at c.unsigned_abs.ensures.value) in
    let cut = is_cut _ _ _ _ _ _ c.after_sign.ensures c.split_digits.ensures.front
    c.split_digits.ensures.behind c.split_fraction.ensures.front
    c.split_fraction.ensures.behind in
    sym (reads_wide _ _ _ _ cut c.in-Some.exponent c.if-whole-fraction-eq0.false c.in-Some.ensures
    wide)

pub returns-clause-value : goal.returns-clause-value
returns-clause-value c =
    let fits : FitsSigned w32 c.in-Some.exponent = search rules in
    let few : nat_abs c.in-Some.exponent ≤ 27 =
    omega (arith, ints, simp to_z-of_z at c.unsigned_abs.ensures.value) in
    let cut = is_cut _ _ _ _ _ _ c.after_sign.ensures c.split_digits.ensures.front
    c.split_digits.ensures.behind c.split_fraction.ensures.front
    c.split_fraction.ensures.behind in
    let means = rw (c.has_minus.ensures, to_z-of_z w32 c.in-Some.exponent fits) at
    (c.settle_digits.ensures _ c.read_digits-digits.ensures.kept) in
    means ∙ sym (reads_meant _ _ _ _ cut c.in-Some.exponent c.if-whole-fraction-eq0.false
    c.in-Some.ensures few)

pub returns-clause-canonical : goal.returns-clause-canonical
returns-clause-canonical c =
    canonical_of c.args.text.now c.settle_digits.result (returns-clause-value c)

pub returns-clause-limits : goal.returns-clause-limits
returns-clause-limits c = limits_of c.args.text.now c.settle_digits.result (returns-clause-value c)
