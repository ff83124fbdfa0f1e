use Rattle.std.proofs.Common.{Err, ap, ◌∙◌}
use Rattle.bl_run.proofs.top.wish_of.Goals as goal

pub returns-in-Err-Refused-clause-words : goal.returns-in-Err-Refused-clause-words
returns-in-Err-Refused-clause-words c =
    λ e. c.read_words.ensures.refused (c.in-Err-Refused.is ∙ ap Err c.in-Err-Refused.field-0-is)
