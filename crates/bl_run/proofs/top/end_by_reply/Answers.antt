use Rattle.std.proofs.Common.{List, ℕ, subst, sym}
use Rattle.bl_run.specs.Runs.{EndsByReply, EndsWithAnswer, EndsWithModel}
use Rattle.bl_run.specs.declared.top.Reply.{Reply}
use Rattle.bl_run.proofs.top.end_by_reply.Goals as goal

pub returns-in-Answer : goal.returns-in-Answer
returns-in-Answer g c =
    let kept = g.K.Sink.kept c.args.sink.now in
    let kept' = g.K.Sink.kept c.answer_written.new.sink in
    let faults = g.K.Sink.faults c.args.sink.now in
    let faults' = g.K.Sink.faults c.answer_written.new.sink in
    let ended = c.answer_written.result in
    let wrote = c.answer_written.ensures in
    let ends : EndsWithAnswer c.in-Answer.answered ended kept kept' faults faults' = record {
      journal = wrote.journal;
      decided = wrote.decided;
      limited = wrote.limited;
      whole = wrote.whole;
      no_fault = wrote.no_fault;
      part = wrote.part;
      cause = wrote.cause;
      others = wrote.others;
    } in
    subst (λ (reply : Reply). EndsByReply reply ended kept kept' faults faults')
    (sym c.in-Answer.is) ends

pub returns-in-Model : goal.returns-in-Model
returns-in-Model g c =
    let kept = g.K.Sink.kept c.args.sink.now in
    let kept' = g.K.Sink.kept c.model_written.new.sink in
    let faults = g.K.Sink.faults c.args.sink.now in
    let faults' = g.K.Sink.faults c.model_written.new.sink in
    let ended = c.model_written.result in
    let wrote = c.model_written.ensures in
    let ends : EndsWithModel c.deref.result.now ended kept kept' faults faults' = record {
      no_journal = wrote.journal;
      status = wrote.status;
      whole = wrote.whole;
      no_fault = wrote.no_fault;
      part = wrote.part;
      cause = wrote.cause;
    } in
    subst (λ (reply : Reply). EndsByReply reply ended kept kept' faults faults')
    (sym c.in-Model.is)
    (subst (λ (text : List ℕ). EndsWithModel text ended kept kept' faults faults')
    c.deref.ensures.value ends)
