use Rattle.std.proofs.Common.{◌≡◌, ◌<◌, ◌++◌, ◌∷◌, [], ℕ, Option, List, length, ap, sym, ◌∙◌}
use Rattle.std.proofs.Common.{subst, refl, arith, rules}
use Rattle.bl_journal.specs.declared.entry.Entry.{Entry}
use Rattle.bl_journal.specs.declared.entry.Entry.TheVariants.{Encode}
use Rattle.bl_tree.specs.Views.{TreeView, past_of}
use Rattle.std.specs.Prelude.{IfSome, is_some, true}
use Rattle.bl_tree.specs.Records.{parent_if, is_listed}
use Rattle.bl_journal.specs.Births.{nodes_of, node_at}
use Rattle.bl_tree.proofs.Chained.{parent_born}
use Rattle.bl_tree.proofs.Keys.{below_more, same_candidates}
use Rattle.bl_tree.specs.Jobs.{JobView, IsJobOf}
use Rattle.bl_tree.specs.Answers.{IsBorn, encoding_for, installed_as}
use Rattle.bl_tree.specs.Calls.{installed}
use Rattle.bl_tree.specs.declared.answer.Encoding.TheVariants.{Open}
use Rattle.bl_tree.proofs.Kept.{has_record}
use Rattle.bl_tree.proofs.Encodings.{may_encode, installed_is, installed_nothing}
use Rattle.bl_tree.proofs.Trees.{tree_room, tree_encoded}
use Rattle.bl_tree.proofs.tree.Tree.install.Goals as goal

pub invariant_of-self : goal.invariant_of-self
invariant_of-self c =
    tree_room c.self.inside _ c.self.invariant refl c.reserve.ensures.entries refl refl
    (λ id. refl) c.self.invariant.listed (λ q h. h) c.reserve.ensures.kept (omega arith)
    (omega arith) (omega arith) (omega arith) (omega arith)

pub invariant_of-self-in_err-reserve-2 : goal.invariant_of-self-in_err-reserve-2
invariant_of-self-in_err-reserve-2 c =
    tree_room c.self.inside _ c.self.invariant refl c.reserve.ensures.entries refl refl (λ id. refl)
    (same_candidates c.self.inside.kept.candidates c.reserve-2.new.self c.reserve-2.ensures.order
    c.reserve-2.ensures.keys c.self.invariant.listed)
    (λ q h. ap is_some (c.reserve-2.ensures.keys q) ∙ h)
    c.reserve.ensures.kept (omega arith) (omega arith) (omega arith) c.reserve-2.ensures.kept
    c.reserve-2.ensures.still

pub invariant_of-self-2 : goal.invariant_of-self-2
invariant_of-self-2 c =
    let k = c.self.invariant.follows in
    let u : TreeView = record {
      problem = c.self.inside.problem;
      settings =
          c.self.inside.settings;
      history = c.self.inside.journal.entries;
    } in
    let j = subst
    (λ (t : TreeView). IsJobOf t (record {
      id = c.job.inside.id;
      form =
          c.job.inside.form;
      piece = c.job.inside.piece;
    })) (sym c.self.view_is)
    (subst (λ (v : JobView). IsJobOf c.args.self.now v) (sym c.job.view_is) c.requires) in
    let born : IsBorn u c.job.inside.id = j.born in
    let x = has_record u.problem (past_of u) c.self.inside.kept.records.items c.job.inside.id
    k.records (let len : length c.self.inside.kept.records.items ≡ _ =
    k.records.count in omega (arith, born, len)) in
    let answer : encoding_for c.args.self.now c.job.inside.id c.job.inside.form ≡ Open =
    search rules in
    let made : encoding_for u c.job.inside.id c.job.inside.form ≡ Open =
    ap (λ (t : TreeView). encoding_for t c.job.inside.id c.job.inside.form) c.self.view_is
    ∙ answer in
    let may = may_encode u c.job.inside.id c.job.inside.form k.legal born made in
    let entries = c.push_reserved.ensures.entries
    ∙ ap (λ (l : List Entry). l ++ Encode c.args.seat c.job.inside.id c.job.inside.form ∷ [])
    c.reserve.ensures.entries in
    let asked = c.in_ok-reserve.ensures.room in
    let room = c.push_reserved.ensures.room in
    let asked2 = c.in_ok-reserve-2.ensures.room in
    let still = c.reserve-2.ensures.still in
    let added = c.add_if.ensures.room in
    let kept_below = c.add_if.ensures.below in
    let parent = c.store-parent.ensures.parent ∙ ap parent_if x.1 in
    tree_encoded c.self.inside _ c.args.seat c.job.inside.id c.job.inside.form x.0
    c.job.inside.piece c.self.invariant refl may x.1 j.piece entries
    (omega (arith, asked, room)) c.store-parent.ensures.capacity
    c.store-parent.ensures.items c.add_if.ensures.plain
    (λ q h. c.add_if.ensures.others q (ap is_some (c.reserve-2.ensures.keys q) ∙ h))
    (subst (λ (o : Option ℕ). IfSome o (λ q. is_listed c.add_if.new.pool q ≡ true)) parent
    c.add_if.ensures.here) (omega (arith, asked2, added)) (omega (arith, still, kept_below))

pub add_if-requires-clause-plain : goal.add_if-requires-clause-plain
add_if-requires-clause-plain c = same_candidates c.self.inside.kept.candidates
    c.reserve-2.new.self c.reserve-2.ensures.order c.reserve-2.ensures.keys c.self.invariant.listed

pub add_if-requires-clause-below : goal.add_if-requires-clause-below
add_if-requires-clause-below c =
    let k = c.self.invariant.follows in
    let u : TreeView = record {
      problem = c.self.inside.problem;
      settings =
          c.self.inside.settings;
      history = c.self.inside.journal.entries;
    } in
    let j = subst
    (λ (t : TreeView). IsJobOf t (record {
      id = c.job.inside.id;
      form =
          c.job.inside.form;
      piece = c.job.inside.piece;
    })) (sym c.self.view_is)
    (subst (λ (v : JobView). IsJobOf c.args.self.now v) (sym c.job.view_is) c.requires) in
    let born : IsBorn u c.job.inside.id = j.born in
    let count : length c.self.inside.kept.records.items
    ≡ length (nodes_of u.problem (past_of u)) = k.records.count in
    let x = has_record u.problem (past_of u) c.self.inside.kept.records.items c.job.inside.id
    k.records (omega (arith, born, count)) in
    let parent = c.store-parent.ensures.parent
    ∙ (ap parent_if x.1 ∙ (k.storage c.job.inside.id x.0 x.1).parent) in
    let still = c.reserve-2.ensures.still in
    let below = c.self.invariant.candidate_below in
    subst (λ (o : Option ℕ). IfSome o (λ q. q < length c.reserve-2.new.self.keys)) (sym parent)
    (below_more (node_at u.problem (past_of u) c.job.inside.id).parent
    (length (nodes_of u.problem (past_of u))) (length c.reserve-2.new.self.keys)
    (parent_born u.problem u.settings (past_of u) c.job.inside.id k.legal born)
    (omega (arith, count, still, below)))

pub returns-then-ne-clause-installed : goal.returns-then-ne-clause-installed
returns-then-ne-clause-installed c =
    let t : TreeView = c.args.self.now in
    let other : c.encoding-encoding.result ≡ Open → ⊥ = search rules in
    let id : c.job.inside.id ≡ c.args.job.id = ap (λ (j : JobView). j.id) c.job.view_is in
    let form : c.job.inside.form ≡ c.args.job.form = ap (λ (j : JobView). j.form) c.job.view_is in
    let stands : c.encoding-encoding.result ≡ encoding_for t c.args.job.id c.args.job.form =
    c.encoding-encoding.ensures ∙ (ap (λ (i : ℕ). encoding_for t i c.job.inside.form) id
    ∙ ap (encoding_for t c.args.job.id) form) in (
      c.spent_job.ensures ∙ (c.installed_as.ensures
          ∙ (ap installed_as stands ∙ installed_is t c.args.job.id c.args.job.form
          c.requires.spanned)),
      installed_nothing t c.args.seat c.args.job c.encoding-encoding.result other
          ∙ ap (installed t c.args.seat c.args.job)
          (sym (c.spent_job.ensures ∙ c.installed_as.ensures)),
    )
