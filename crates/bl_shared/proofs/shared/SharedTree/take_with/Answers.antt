use Rattle.std.proofs.Common.{rules, ◌≡◌, ap, sym, ◌∙◌, subst, ◌∷◌, [], ◌++◌, refl, Some}
use Rattle.bl_turn.specs.Seats.{view_of}
use Rattle.bl_turn.specs.Views.{committed_view}
use Rattle.bl_shared.specs.Calls.{HasSeen, base_of_tree}
use Rattle.bl_journal.specs.declared.entry.Entry.TheVariants.{Take}
use Rattle.bl_tree.specs.Views.{TreeView, extended}
use Rattle.bl_shared.proofs.Turning.{commits_at}
use Rattle.bl_shared.proofs.shared.SharedTree.take_with.Goals as goal

pub returns-in-Ok-Node-clause-seat : goal.returns-in-Ok-Node-clause-seat
returns-in-Ok-Node-clause-seat g c =
    let v = view_of c.args.seat.now in
    let n = c.number-number.ensures in
    let old = c.value.result.now.tree in
    let new = c.take.new.self.tree in
    let e = Take (view_of c.args.seat.now).number c.in-Ok-Node.lease.id in
    let history = c.enter-held.result.seat.now.place.me.0.found in
    let found : c.enter-held.result.seat.now.place.me.0.found ≡ c.value.result.now.tree.history =
    search rules in
    let base : (view_of c.args.seat.now).base ≡ Some (base_of_tree c.value.result.now.tree) =
    search rules in
    let taken = rw c.in-Ok-Node.field-0-is at c.in-Ok-Node.ensures.taken in
    let entry : c.take.new.self.tree ≡ extended c.value.result.now.tree
    (Take (view_of c.args.seat.now).number c.in-Ok-Node.lease.id) =
    subst (λ k. c.take.new.self.tree
    ≡ extended c.value.result.now.tree (Take k c.in-Ok-Node.lease.id)) n taken.entry in
    let told = ap (λ (t : TreeView). t.history) entry ∙ ap (λ h. h ++ e ∷ []) (sym found) in
    let is = c.leave.ensures.view ∙ (c.commit.ensures.view e told
    ∙ ap (λ u. committed_view u history e) c.enter-held.ensures.view) in
    let t = commits_at v _ history e old new (λ old new. new ≡ extended old
    (Take (view_of c.args.seat.now).number c.in-Ok-Node.lease.id))
    c.enter-held.ensures.history found base entry refl is entry c.take.ensures.before
    c.take.ensures.after in
    (search rules, (search rules, search rules), subst HasSeen (search rules) t.1)
