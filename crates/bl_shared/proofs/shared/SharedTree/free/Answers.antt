use Rattle.std.proofs.Common.{rules, ◌≡◌, ap, sym, ◌∙◌, subst, ◌∷◌, [], ◌++◌, refl, Some}
use Rattle.bl_turn.specs.Seats.{view_of}
use Rattle.bl_turn.specs.Views.{committed_view}
use Rattle.bl_shared.specs.Calls.{HasSeen, base_of_tree}
use Rattle.bl_journal.specs.declared.entry.Entry.TheVariants.{Free}
use Rattle.bl_tree.specs.Views.{TreeView, extended}
use Rattle.bl_shared.proofs.Turning.{commits_at}
use Rattle.bl_shared.proofs.shared.SharedTree.free.Goals as goal

pub returns-in-Ok-Chain-clause-seat : goal.returns-in-Ok-Chain-clause-seat
returns-in-Ok-Chain-clause-seat g c =
    let v = view_of c.args.seat.now in
    let n = c.number-number.ensures in
    let old = c.value.result.now.tree in
    let new = c.free.new.self.tree in
    let e = Free (view_of c.args.seat.now).number c.in-Ok-Chain.nodes in
    let history = c.enter-held.result.seat.now.place.me.0.found in
    let found : c.enter-held.result.seat.now.place.me.0.found ≡ c.value.result.now.tree.history =
    search rules in
    let base : (view_of c.args.seat.now).base ≡ Some (base_of_tree c.value.result.now.tree) =
    search rules in
    let freed = rw c.in-Ok-Chain.field-0-is at c.in-Ok-Chain.ensures.freed in
    let entry : c.free.new.self.tree ≡ extended c.value.result.now.tree
    (Free (view_of c.args.seat.now).number c.in-Ok-Chain.nodes) =
    subst (λ k. c.free.new.self.tree
    ≡ extended c.value.result.now.tree (Free k c.in-Ok-Chain.nodes)) n freed.1 in
    let told = ap (λ (t : TreeView). t.history) entry ∙ ap (λ h. h ++ e ∷ []) (sym found) in
    let is = c.leave.ensures.view ∙ (c.commit.ensures.view e told
    ∙ ap (λ u. committed_view u history e) c.enter-held.ensures.view) in
    let t = commits_at v _ history e old new (λ old new. new ≡ extended old
    (Free (view_of c.args.seat.now).number c.in-Ok-Chain.nodes)) c.enter-held.ensures.history
    found base entry refl is entry c.free.ensures.before c.free.ensures.after in
    (search rules, (search rules, search rules), subst HasSeen (search rules) t.1)
