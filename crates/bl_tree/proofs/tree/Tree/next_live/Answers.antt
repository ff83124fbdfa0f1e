use Rattle.std.proofs.Common.{sym, ap, ◌∙◌}
use Rattle.std.specs.Prelude.{reverse}
use Rattle.bl_journal.specs.States.{cutoff_for}
use Rattle.bl_journal.specs.Replies.{next_of}
use Rattle.bl_tree.specs.Views.{TreeView, past_of}
use Rattle.bl_tree.proofs.Queues.{thinned, next_first, next_none}
use Rattle.bl_tree.proofs.tree.Tree.next_live.Goals as goal

pub returns-in_err-key-clause-next : goal.returns-in_err-key-clause-next
returns-in_err-key-clause-next c =
    let cut = c.cutoff-cutoff.ensures
    ∙ ap (λ (t : TreeView). cutoff_for t.problem t.settings (past_of t)) (sym c.self.view_is) in
    let queued = thinned c.self.inside.settings.order c.cutoff-cutoff.result _
    c.self.inside.kept.records.items c.self.inside.kept.waiting c.first_open.new.pool cut
    c.first_open.ensures.order c.first_open.ensures.keys c.self.invariant.queued in
    c.from_residual.ensures
    ∙ (sym (next_none c.self.inside.problem c.self.inside.settings (reverse
    c.self.inside.journal.entries) c.self.inside.kept.records.items c.cutoff-cutoff.result
    c.first_open.new.pool c.self.invariant.follows.records cut queued
    (c.first_open.ensures.none c.in_err-key.was))
    ∙ ap (λ (t : TreeView). next_of t.problem t.settings (past_of t)) c.self.view_is)

pub returns-clause-next : goal.returns-clause-next
returns-clause-next c =
    let cut = c.cutoff-cutoff.ensures
    ∙ ap (λ (t : TreeView). cutoff_for t.problem t.settings (past_of t)) (sym c.self.view_is) in
    let queued = thinned c.self.inside.settings.order c.cutoff-cutoff.result _
    c.self.inside.kept.records.items c.self.inside.kept.waiting c.first_open.new.pool cut
    c.first_open.ensures.order c.first_open.ensures.keys c.self.invariant.queued in
    sym (next_first c.self.inside.problem c.self.inside.settings
    (reverse c.self.inside.journal.entries) c.self.inside.kept.records.items
    c.cutoff-cutoff.result c.first_open.new.pool c.in_ok-key.key
    c.self.invariant.follows.records cut queued
    c.in_ok-key.ensures.first.0 c.in_ok-key.ensures.first.1)
    ∙ ap (λ (t : TreeView). next_of t.problem t.settings (past_of t)) c.self.view_is
