use Rattle.std.proofs.Common.{◌≡◌, ◌<◌, ℕ, true, List, length, ap, sym, ◌∙◌, subst, refl, arith}
use Rattle.std.specs.Prelude.{reverse, IfSome}
use Rattle.bl_journal.specs.Births.{nodes_of}
use Rattle.bl_journal.specs.States.{cutoff_for}
use Rattle.bl_journal.specs.Freeing.{first_freeable, is_freeable}
use Rattle.bl_tree.specs.Views.{TreeView, past_of}
use Rattle.bl_tree.specs.Records.{is_listed, may_go_at}
use Rattle.bl_tree.specs.declared.record.Record.{Record}
use Rattle.bl_tree.proofs.Candidates.{found_first, still_covered}
use Rattle.bl_tree.proofs.Trees.{tree_looked}
use Rattle.bl_tree.proofs.tree.Tree.next_to_go.Goals as goal

-- each node that may be freed is a candidate
covers : (c : goal.After-first_to_go) → (id : ℕ) → id
    < length (nodes_of c.self.inside.problem (reverse c.self.inside.journal.entries))
    → is_freeable c.self.inside.problem c.self.inside.settings
    (reverse c.self.inside.journal.entries) id ≡ true → is_listed c.first_to_go.new.pool id
    ≡ true
covers c =
    let k = c.self.invariant.follows in
    let cut = c.cutoff-cutoff.ensures
    ∙ ap (λ (t : TreeView). cutoff_for t.problem t.settings (past_of t)) (sym c.self.view_is) in
    let all = subst (λ (l : List Record). c.self.inside.kept.fell ≡ true → (q : ℕ) → q < length l
    → may_go_at c.cutoff-cutoff.result l q ≡ true → is_listed c.refresh.new.pool q ≡ true)
    c.deref.ensures.value c.in_ok-refresh.ensures.all in
    let stay = subst (λ (l : List Record). (q : ℕ) → is_listed c.refresh.new.pool q ≡ true
    → may_go_at c.cutoff-cutoff.result l q ≡ true → is_listed c.first_to_go.new.pool q ≡ true)
    c.deref-2.ensures.value c.first_to_go.ensures.kept in
    still_covered c.self.inside.problem c.self.inside.settings (reverse
    c.self.inside.journal.entries) c.self.inside.kept.records.items c.cutoff-cutoff.result
    (is_listed c.self.inside.kept.candidates) (is_listed c.refresh.new.pool)
    (is_listed c.first_to_go.new.pool)
    c.self.inside.kept.fell k.records k.storage cut c.self.invariant.covered
    c.refresh.ensures.others all stay

pub invariant_of-self-2 : goal.invariant_of-self-2
invariant_of-self-2 c =
    let asked = c.refresh.ensures.room in
    let room = c.first_to_go.ensures.room in
    let below = c.refresh.ensures.below in
    let same = c.first_to_go.ensures.below in
    tree_looked c.self.inside _ c.self.invariant refl c.first_to_go.ensures.plain (covers c)
    (omega (arith, asked, room)) (omega (arith, below, same))

pub returns-clause-next : goal.returns-clause-next
returns-clause-next c =
    let k = c.self.invariant.follows in
    let cut = c.cutoff-cutoff.ensures
    ∙ ap (λ (t : TreeView). cutoff_for t.problem t.settings (past_of t)) (sym c.self.view_is) in
    let goes =
    subst (λ (l : List Record). IfSome c.first_to_go.result
    (λ id. may_go_at c.cutoff-cutoff.result l id ≡ true)) c.deref-2.ensures.value
    c.first_to_go.ensures.goes in
    found_first c.self.inside.problem c.self.inside.settings
    (reverse c.self.inside.journal.entries) c.self.inside.kept.records.items
    c.cutoff-cutoff.result (is_listed c.first_to_go.new.pool) c.first_to_go.result
    k.records k.storage cut (covers c) goes c.first_to_go.ensures.least c.first_to_go.ensures.none
    ∙ ap (λ (t : TreeView). first_freeable t.problem t.settings (past_of t)) c.self.view_is
