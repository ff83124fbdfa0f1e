use Rattle.std.proofs.Common.{◌++◌, ap, ◌∙◌}
use Rattle.bl_problem.specs.Program.{Program}
use Rattle.bl_tree.specs.Answers.{verdict_of}
use Rattle.bl_report.specs.Texts.{verdict_text}
use Rattle.bl_run.specs.Runs.{log_lines}
use Rattle.bl_run.proofs.Answered.{solved}
use Rattle.bl_run.proofs.top.told.Goals as goal

pub returns : goal.returns
returns c =
    let wish = c.args.wish.now in
    let tree = c.args.search.tree in
    let problem = c.args.problem.now.value in
    let searched = c.requires.searched in
    let answer = c.in_ok-answer.ensures
    ∙ ap (λ (p : Program). verdict_text p c.has_columns.result (verdict_of c.answer.result))
    c.deref.ensures
    ∙ ap (λ b. verdict_text problem b (verdict_of c.answer.result)) c.has_columns.ensures in
    let text = c.in_ok-text.ensures ∙ ap
    (λ a. log_lines wish.log c.into_journal-journal.result.entries c.held-held.result ++ a)
    answer in
    solved c.answers_are_true.ensures c.args._workers problem wish _ tree
    (verdict_of c.answer.result) c.held-held.result searched.problem searched.settings
    searched.ended c.requires.places
    c.into_journal-journal.ensures.entries c.answer.ensures.answer c.held-held.ensures text
