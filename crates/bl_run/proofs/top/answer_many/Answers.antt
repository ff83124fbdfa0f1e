use Rattle.std.proofs.Common.{false}
use Rattle.bl_run.proofs.Replies.{model_replied}
use Rattle.bl_run.proofs.top.answer_many.Goals as goal

pub returns-then-wish-clause-replied : goal.returns-then-wish-clause-replied
returns-then-wish-clause-replied g c =
    model_replied false c.args.words.now _ _ _ _ c.in_ok-wish.field-0 c.in_ok-wish.ensures.asked
    c.model_text.result c.if-wish.true c.model_text.ensures.text c.model_text.ensures.memory
