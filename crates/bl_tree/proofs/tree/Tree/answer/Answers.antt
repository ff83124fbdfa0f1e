use Rattle.std.proofs.Common.{◌≡◌, ap, ◌∙◌, sym, subst, FitsSigned, rules, ℤ}
use Rattle.std.specs.Prelude.{reverse}
use Rattle.std.specs.Int.{w128}
use Rattle.std.proofs.lemmas.Int.{to_z-of_z}
use Rattle.bl_journal.specs.States.{best_of}
use Rattle.bl_journal.specs.Results.{IsTrueFor, answer_of, live_ids, lows_of}
use Rattle.bl_journal.proofs.Meaning.{answer_means}
use Rattle.bl_tree.specs.Views.{TreeView, past_of}
use Rattle.bl_tree.specs.Records.{least_if}
use Rattle.bl_tree.specs.Answers.{verdict_of, verdict_for, verdict_from, found_if}
use Rattle.bl_tree.proofs.Lows.{answer_same}
use Rattle.bl_tree.proofs.tree.Tree.answer.Goals as goal

-- the answer is that of the history
same : (c : goal.After-answer_from) → verdict_of c.answer_from.result ≡ verdict_for c.args.self.now
same c =
    let best = c.incumbent.ensures ∙ ap (λ (t : TreeView). best_of t.problem (past_of t))
    (sym c.self.view_is) in
    let least = c.least_low-least.ensures
    ∙ ap (λ (t : TreeView). least_if (lows_of t.problem (past_of t)
    (live_ids t.problem t.settings (past_of t)))) (sym c.self.view_is) in
    let fit : FitsSigned w128 c.self.inside.settings.gap = search rules in
    c.answer_from.ensures
    ∙ (ap (λ (z : ℤ). verdict_from z (found_if c.incumbent.result) c.least_low-least.result)
    (to_z-of_z w128 _ fit)
    ∙ (answer_same c.self.inside.problem c.self.inside.settings
    (reverse c.self.inside.journal.entries) _ _ best least ∙ ap verdict_for c.self.view_is))

pub returns-clause-answer : goal.returns-clause-answer
returns-clause-answer c = same c

pub returns-clause-means : goal.returns-clause-means
returns-clause-means c =
    let k = c.self.invariant.follows in
    let true_for : IsTrueFor c.self.inside.problem
    (answer_of c.self.inside.problem c.self.inside.settings
    (reverse c.self.inside.journal.entries)) =
    answer_means c.self.inside.problem c.self.inside.settings
    (reverse c.self.inside.journal.entries) k.gap_some k.legal in
    subst (IsTrueFor c.args.self.now.problem) (sym (same c))
    (subst (λ (t : TreeView). IsTrueFor t.problem (verdict_for t)) c.self.view_is true_for)
