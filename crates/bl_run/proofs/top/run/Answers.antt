use Rattle.std.proofs.Common.{false}
use Rattle.bl_run.proofs.Ends.{has_run}
use Rattle.bl_run.proofs.top.run.Goals as goal

pub returns-clause-ran : goal.returns-clause-ran
returns-clause-ran g c =
    has_run false c.args.words.now c.end.result _ _ c.answer_many-reply.result
    c.answer_many-reply.ensures.replied c.end.ensures
