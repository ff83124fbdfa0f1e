use Rattle.std.proofs.Common.{rules, ◌≡◌, ap, sym, ◌∙◌, subst, ◌∷◌, [], ◌++◌, refl, Some}
use Rattle.bl_turn.specs.Seats.{view_of}
use Rattle.bl_turn.specs.Views.{committed_view}
use Rattle.bl_shared.specs.Calls.{Knows, HasSeen, base_of_tree, BacksIn}
use Rattle.bl_journal.specs.declared.entry.Entry.TheVariants.{Back}
use Rattle.bl_tree.specs.Views.{TreeView, IsLegalTree, IsLeaseOf, extended}
use Rattle.bl_shared.proofs.Turning.{commits_at, lease_found}
use Rattle.bl_shared.proofs.shared.SharedTree.back.Goals as goal

pub back-requires : goal.back-requires
back-requires g c =
    subst (λ n. IsLeaseOf c.value-2.result.now.tree n c.args.lease) (sym c.number-number.ensures)
    (lease_found (view_of c.args.seat.now) _ c.value-2.result.now.tree c.args.lease
    c.enter-held.ensures.history (search rules) (search rules) (search rules) c.requires.leased)

pub returns-clause-seat : goal.returns-clause-seat
returns-clause-seat g c =
    let v = view_of c.args.seat.now in
    let n = c.number-number.ensures in
    let old = c.value-2.result.now.tree in
    let new = c.back.new.self.tree in
    let e = Back (view_of c.args.seat.now).number c.args.lease.id in
    let history = c.enter-held.result.seat.now.place.me.0.found in
    let found : c.enter-held.result.seat.now.place.me.0.found
    ≡ c.value-2.result.now.tree.history = search rules in
    let base : (view_of c.args.seat.now).base ≡ Some (base_of_tree c.value-2.result.now.tree) =
    search rules in
    let legal : IsLegalTree c.value-2.result.now.tree = search rules in
    let entry : c.back.new.self.tree ≡ extended c.value-2.result.now.tree
    (Back (view_of c.args.seat.now).number c.args.lease.id) =
    subst (λ k. c.back.new.self.tree
    ≡ extended c.value-2.result.now.tree (Back k c.args.lease.id)) n c.back.ensures.entry in
    let leased = lease_found v history old c.args.lease c.enter-held.ensures.history found base
    legal c.requires.leased in
    let told = ap (λ (t : TreeView). t.history) entry ∙ ap (λ h. h ++ e ∷ []) (sym found) in
    let is = c.leave.ensures.view ∙ (c.commit.ensures.view e told
    ∙ ap (λ u. committed_view u history e) c.enter-held.ensures.view) in
    let t = commits_at v _ history e old new
    (λ old new. IsLeaseOf old (view_of c.args.seat.now).number c.args.lease
    × (new ≡ extended old (Back (view_of c.args.seat.now).number c.args.lease.id)))
    c.enter-held.ensures.history found base entry refl is (leased, entry) legal
    c.back.ensures.after in
    (search rules, (search rules, search rules), subst HasSeen (search rules) t.1)

pub returns-clause-back : goal.returns-clause-back
returns-clause-back g c =
    let v = view_of c.args.seat.now in
    let n = c.number-number.ensures in
    let old = c.value-2.result.now.tree in
    let new = c.back.new.self.tree in
    let e = Back (view_of c.args.seat.now).number c.args.lease.id in
    let history = c.enter-held.result.seat.now.place.me.0.found in
    let found : c.enter-held.result.seat.now.place.me.0.found
    ≡ c.value-2.result.now.tree.history = search rules in
    let base : (view_of c.args.seat.now).base ≡ Some (base_of_tree c.value-2.result.now.tree) =
    search rules in
    let legal : IsLegalTree c.value-2.result.now.tree = search rules in
    let entry : c.back.new.self.tree ≡ extended c.value-2.result.now.tree
    (Back (view_of c.args.seat.now).number c.args.lease.id) =
    subst (λ k. c.back.new.self.tree
    ≡ extended c.value-2.result.now.tree (Back k c.args.lease.id)) n c.back.ensures.entry in
    let leased = lease_found v history old c.args.lease c.enter-held.ensures.history found base
    legal c.requires.leased in
    let told = ap (λ (t : TreeView). t.history) entry ∙ ap (λ h. h ++ e ∷ []) (sym found) in
    let is = c.leave.ensures.view ∙ (c.commit.ensures.view e told
    ∙ ap (λ u. committed_view u history e) c.enter-held.ensures.view) in
    let t = commits_at v _ history e old new
    (λ old new. IsLeaseOf old (view_of c.args.seat.now).number c.args.lease
    × (new ≡ extended old (Back (view_of c.args.seat.now).number c.args.lease.id)))
    c.enter-held.ensures.history found base entry refl is (leased, entry) legal
    c.back.ensures.after in
    subst (λ (u : Knows). BacksIn (view_of c.args.seat.now) c.args.lease u) (search rules) t.0
