use Rattle.std.proofs.Common.{true}
use Rattle.bl_run.proofs.Ends.{has_run}
use Rattle.bl_run.proofs.top.run_one.Goals as goal

pub returns-clause-ran : goal.returns-clause-ran
returns-clause-ran g c =
    has_run true c.args.words.now c.end.result _ _ c.answer_one-reply.result
    c.answer_one-reply.ensures.replied c.end.ensures
