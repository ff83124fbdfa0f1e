use Rattle.std.proofs.Common.{◌≡◌, ap, sym, ◌∙◌, Some, List, rules}
use Rattle.std.specs.Prelude.{reverse, FitsSigned}
use Rattle.std.specs.Int.{w128}
use Rattle.std.proofs.lemmas.Int.{to_z-of_z}
use Rattle.bl_pool.specs.declared.key.Order.TheVariants.{Best}
use Rattle.bl_journal.specs.States.{cutoff_for}
use Rattle.bl_journal.specs.Results.{live_ids, lows_of}
use Rattle.bl_tree.specs.Views.{TreeView, past_of}
use Rattle.bl_tree.specs.Records.{least_if, live_lows}
use Rattle.bl_tree.specs.declared.record.Record.{Record}
use Rattle.bl_tree.proofs.Least.{first_least, none_least, queued_at}
use Rattle.bl_tree.proofs.Lows.{lows_same}
use Rattle.bl_tree.proofs.tree.Tree.least_low.Goals as goal

pub returns-in_err-key : goal.returns-in_err-key
returns-in_err-key c =
    let cut = c.cutoff-cutoff.ensures
    ∙ ap (λ (t : TreeView). cutoff_for t.problem t.settings (past_of t)) (sym c.self.view_is) in
    let best : c.self.inside.settings.order ≡ Best = search rules in
    let queued = queued_at _ _ _ _ _ cut c.self.invariant.queued in
    let lows = lows_same c.self.inside.problem c.self.inside.settings
    (reverse c.self.inside.journal.entries) c.self.inside.kept.records.items
    c.cutoff-cutoff.result cut c.self.invariant.follows.records in
    c.from_residual.ensures
    ∙ (none_least c.cutoff-cutoff.result c.self.inside.kept.records.items
    c.self.inside.settings.order c.self.inside.kept.waiting c.self.inside.kept.outs queued
    c.self.invariant.outs_is c.if-self-eq0.true
    (c.first_if_open.ensures.none c.in_err-key.was (queued.same_order ∙ best))
    ∙ (ap least_if lows
    ∙ ap (λ (t : TreeView). least_if
    (lows_of t.problem (past_of t) (live_ids t.problem t.settings (past_of t))))
    c.self.view_is))

pub returns-then-eq : goal.returns-then-eq
returns-then-eq c =
    let cut = c.cutoff-cutoff.ensures
    ∙ ap (λ (t : TreeView). cutoff_for t.problem t.settings (past_of t)) (sym c.self.view_is) in
    let best : c.self.inside.settings.order ≡ Best = search rules in
    let queued = queued_at _ _ _ _ _ cut c.self.invariant.queued in
    let lows = lows_same c.self.inside.problem c.self.inside.settings
    (reverse c.self.inside.journal.entries) c.self.inside.kept.records.items
    c.cutoff-cutoff.result cut c.self.invariant.follows.records in
    let fit : FitsSigned w128 c.in_ok-key.key.low = search rules in
    ap Some (to_z-of_z w128 _ fit)
    ∙ (first_least c.cutoff-cutoff.result c.self.inside.settings.order
    c.self.inside.kept.records.items c.self.inside.kept.waiting c.self.inside.kept.outs
    c.in_ok-key.key queued best c.self.invariant.outs_is c.if-self-eq0.true
    c.in_ok-key.ensures.some.0 c.in_ok-key.ensures.some.1
    ∙ (ap least_if lows
    ∙ ap (λ (t : TreeView). least_if
    (lows_of t.problem (past_of t) (live_ids t.problem t.settings (past_of t))))
    c.self.view_is))

pub returns : goal.returns
returns c =
    let cut = c.cutoff-cutoff.ensures
    ∙ ap (λ (t : TreeView). cutoff_for t.problem t.settings (past_of t)) (sym c.self.view_is) in
    let lows = lows_same c.self.inside.problem c.self.inside.settings
    (reverse c.self.inside.journal.entries) c.self.inside.kept.records.items
    c.cutoff-cutoff.result cut c.self.invariant.follows.records in
    c.least_live.ensures
    ∙ (ap (λ (rs : List Record). least_if (live_lows c.cutoff-cutoff.result rs))
    c.deref.ensures.value
    ∙ (ap least_if lows
    ∙ ap (λ (t : TreeView). least_if
    (lows_of t.problem (past_of t) (live_ids t.problem t.settings (past_of t))))
    c.self.view_is))
