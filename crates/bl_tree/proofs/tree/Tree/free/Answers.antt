use Rattle.std.proofs.Common.{◌≡◌, ◌<◌, ◌++◌, ◌∷◌, [], ℕ, None, List, length, ap, sym, ◌∙◌, subst}
use Rattle.std.proofs.Common.{refl, arith, rules}
use Rattle.std.specs.Prelude.{reverse, vec_capacity}
use Rattle.bl_journal.specs.declared.entry.Entry.{Entry}
use Rattle.bl_journal.specs.declared.entry.Entry.TheVariants.{Free}
use Rattle.bl_journal.specs.States.{cutoff_for}
use Rattle.bl_journal.specs.Freeing.{first_freeable, IsFreeChain, standing_of}
use Rattle.bl_tree.specs.Views.{TreeView, past_of, extended}
use Rattle.bl_tree.specs.Records.{depth_if, is_listed}
use Rattle.bl_tree.proofs.Searches.{slice_get-is}
use Rattle.bl_journal.proofs.Growth.{reverse-push}
use Rattle.bl_tree.proofs.Candidates.{linked}
use Rattle.bl_tree.proofs.Trees.{tree_room, tree_freed, freed_tree, first_kept, nothing_to_free}
use Rattle.bl_tree.proofs.tree.Tree.free.Goals as goal

pub returns-in_default-clause-freed : goal.returns-in_default-clause-freed
returns-in_default-clause-freed c =
    let t : TreeView = c.args.self.now in
    let none : first_freeable t.problem t.settings (past_of t) ≡ None =
    sym c.in_ok-least.ensures.next ∙ c.in_default.is in
    (nothing_to_free t.problem t.settings (past_of t) none, c.next_to_go.ensures.same)

pub invariant_of-self : goal.invariant_of-self
invariant_of-self c =
    tree_room c.self.inside _ c.self.invariant refl c.reserve.ensures.entries refl refl
    (λ id. refl) c.self.invariant.listed (λ q h. h) c.reserve.ensures.kept (omega arith)
    (omega arith) (omega arith) (omega arith) (omega arith)

pub index-requires : goal.index-requires
index-requires c =
    let within = first_kept c.self.inside c.in-Some.first c.self.invariant
    (ap (λ (t : TreeView). first_freeable t.problem t.settings (past_of t))
    (c.self.view_is ∙ c.next_to_go.ensures.same)
    ∙ (sym c.in_ok-least.ensures.next ∙ c.in-Some.is)) in
    let len : length c.self.inside.kept.records.items ≡ c.self.inside.kept.records.len =
    search rules in
    omega (arith, within, len)

pub invariant_of-self-in_err-ids : goal.invariant_of-self-in_err-ids
invariant_of-self-in_err-ids c =
    tree_room c.self.inside _ c.self.invariant refl c.reserve.ensures.entries refl refl
    (λ id. refl) c.self.invariant.listed (λ q h. h) c.reserve.ensures.kept (omega arith)
    (omega arith) (omega arith) (omega arith) (omega arith)

pub invariant_of-self-in_err-chain : goal.invariant_of-self-in_err-chain
invariant_of-self-in_err-chain c =
    tree_room c.self.inside _ c.self.invariant refl c.reserve.ensures.entries refl refl
    (λ id. refl) c.self.invariant.listed (λ q h. h) c.reserve.ensures.kept (omega arith)
    (omega arith) (omega arith) (omega arith) (omega arith)

pub invariant_of-self-in_err-pieces : goal.invariant_of-self-in_err-pieces
invariant_of-self-in_err-pieces c =
    tree_room c.self.inside _ c.self.invariant refl c.reserve.ensures.entries refl refl
    (λ id. refl) c.self.invariant.listed (λ q h. h) c.reserve.ensures.kept (omega arith)
    (omega arith) (omega arith) (omega arith) (omega arith)

pub free_up-requires-clause-there : goal.free_up-requires-clause-there
free_up-requires-clause-there c =
    first_kept c.self.inside c.in-Some.first c.self.invariant
    (ap (λ (t : TreeView). first_freeable t.problem t.settings (past_of t))
    (c.self.view_is ∙ c.next_to_go.ensures.same)
    ∙ (sym c.in_ok-least.ensures.next ∙ c.in-Some.is))

pub free_up-requires-clause-linked : goal.free_up-requires-clause-linked
free_up-requires-clause-linked c =
    let k = c.self.invariant.follows in
    linked c.self.inside.problem c.self.inside.settings (reverse c.self.inside.journal.entries)
    c.self.inside.kept.records.items k.legal k.records k.storage

pub free_up-requires-clause-room : goal.free_up-requires-clause-room
free_up-requires-clause-room c =
    let within = first_kept c.self.inside c.in-Some.first c.self.invariant
    (ap (λ (t : TreeView). first_freeable t.problem t.settings (past_of t))
    (c.self.view_is ∙ c.next_to_go.ensures.same)
    ∙ (sym c.in_ok-least.ensures.next ∙ c.in-Some.is)) in
    let e = slice_get-is c.self.inside.kept.records.items c.in-Some.first c.index.result.now
    within c.index.ensures in
    let deep = ap depth_if e in
    let wide = c.in_ok-ids.ensures.capacity in
    omega (arith, deep, wide)

pub copy_into-requires-clause-room : goal.copy_into-requires-clause-room
copy_into-requires-clause-room c =
    let within = first_kept c.self.inside c.in-Some.first c.self.invariant
    (ap (λ (t : TreeView). first_freeable t.problem t.settings (past_of t))
    (c.self.view_is ∙ c.next_to_go.ensures.same)
    ∙ (sym c.in_ok-least.ensures.next ∙ c.in-Some.is)) in
    let e = slice_get-is c.self.inside.kept.records.items c.in-Some.first c.index.result.now
    within c.index.ensures in
    let deep = ap depth_if e in
    let wide = c.in_ok-chain.ensures.capacity in
    let few = c.free_up.ensures.few in
    let same = ap length c.shrink_to_fit.ensures.items in
    let same2 = ap length c.deref.ensures.value in
    omega (arith, deep, wide, few, same, same2)

pub invariant_of-self-2 : goal.invariant_of-self-2
invariant_of-self-2 c =
    let first = ap (λ (t : TreeView). first_freeable t.problem t.settings (past_of t))
    (c.self.view_is ∙ c.next_to_go.ensures.same)
    ∙ (sym c.in_ok-least.ensures.next ∙ c.in-Some.is) in
    let ids = c.from_vec-ids.ensures ∙ c.shrink_to_fit.ensures.items in
    let h = c.push_reserved.ensures.entries
    ∙ (ap (λ (l : List ℕ). c.reserve.new.self.entries ++ Free c.args.seat l ∷ []) ids
    ∙ ap (λ (es : List Entry). es ++ Free c.args.seat c.free_up.new.ids.items ∷ [])
    c.reserve.ensures.entries) in
    let asked = c.in_ok-reserve.ensures.room in
    let room = c.push_reserved.ensures.room in
    let cut = c.cutoff-cutoff.ensures
    ∙ ap (λ (t : TreeView). cutoff_for t.problem t.settings (past_of t)) (sym c.self.view_is) in
    tree_freed c.self.inside _ _ c.args.seat c.in-Some.first c.free_up.new.ids.items
    c.self.invariant refl cut first c.free_up.ensures.freed h (omega (arith, asked, room))
    c.free_up.ensures.capacity
    c.leave.ensures.order c.leave.ensures.keys c.leave.ensures.room c.leave.ensures.below

pub returns-clause-freed : goal.returns-clause-freed
returns-clause-freed c =
    let u : TreeView = record {
      problem = c.self.inside.problem;
      settings =
          c.self.inside.settings;
      history = c.self.inside.journal.entries;
    } in
    let v = c.self.view_is ∙ c.next_to_go.ensures.same in
    let k = c.self.invariant.follows in
    let first = ap (λ (t : TreeView). first_freeable t.problem t.settings (past_of t))
    (c.self.view_is ∙ c.next_to_go.ensures.same)
    ∙ (sym c.in_ok-least.ensures.next ∙ c.in-Some.is) in
    let ids = c.from_vec-ids.ensures ∙ c.shrink_to_fit.ensures.items in
    let h = c.push_reserved.ensures.entries
    ∙ (ap (λ (l : List ℕ). c.reserve.new.self.entries ++ Free c.args.seat l ∷ []) ids
    ∙ ap (λ (es : List Entry). es ++ Free c.args.seat c.free_up.new.ids.items ∷ [])
    c.reserve.ensures.entries) in
    let asked = c.in_ok-reserve.ensures.room in
    let room = c.push_reserved.ensures.room in
    let outs = c.self.invariant.outs_is in
    let cut = c.cutoff-cutoff.ensures
    ∙ ap (λ (t : TreeView). cutoff_for t.problem t.settings (past_of t)) (sym c.self.view_is) in
    let g = freed_tree u.problem u.settings (past_of u) c.self.inside.journal.room
    c.push_reserved.new.self.room (vec_capacity c.self.inside.kept.records)
    c.self.inside.kept.records.items c.self.inside.kept.used c.self.inside.kept.best
    c.cutoff-cutoff.result
    (is_listed c.self.inside.kept.candidates) c.self.inside.kept.fell c.args.seat c.in-Some.first
    c.free_up.new.ids.items c.free_up.new.records.items k cut c.self.invariant.covered first
    c.free_up.ensures.freed (omega (arith, asked, room, outs)) in
    let answer : c.freed_nodes.result ≡ c.free_up.new.ids.items = c.freed_nodes.ensures
    ∙ (c.copy_into.ensures ∙ (c.deref.ensures.value ∙ c.shrink_to_fit.ensures.items)) in
    let turned : reverse c.push_reserved.new.self.entries ≡ Free c.args.seat
    c.free_up.new.ids.items ∷ past_of u =
    ap reverse h ∙ reverse-push c.self.inside.journal.entries
    (Free c.args.seat c.free_up.new.ids.items) in (
      subst (λ (t : TreeView). IsFreeChain t.problem t.settings (past_of t) c.freed_nodes.result)
          v (subst (λ (l : List ℕ). IsFreeChain u.problem u.settings (past_of u) l) (sym answer)
          g.chain),
      ap (λ (es : List Entry). record {
        problem = u.problem;
        settings = u.settings;
        history =
            es;
      }) h
          ∙ (ap (λ (l : List ℕ). extended u (Free c.args.seat l)) (sym answer)
          ∙ ap (λ (t : TreeView). extended t (Free c.args.seat c.freed_nodes.result)) v),
      subst (λ (t : TreeView). standing_of u.problem (reverse c.push_reserved.new.self.entries)
          < standing_of t.problem (past_of t)) v
          (subst (λ (past : List Entry). standing_of u.problem past
          < standing_of u.problem (past_of u)) (sym turned) g.fewer),
    )
