use Rattle.bl_num.proofs.Fronts.{after_digits-drop, digits_of-digits}
use Rattle.bl_num.proofs.read.split_digits.Goals as goal

pub returns-clause-front : goal.returns-clause-front
returns-clause-front c = rw (c.split_at.ensures.front, c.digit_count.ensures.count)

pub returns-clause-behind : goal.returns-clause-behind
returns-clause-behind c = rw (c.split_at.ensures.back, c.digit_count.ensures.count)
    (after_digits-drop c.args.text.now)

pub returns-clause-digits : goal.returns-clause-digits
returns-clause-digits c = rw (c.split_at.ensures.front, c.digit_count.ensures.count)
    (digits_of-digits c.args.text.now)
