use Rattle.std.proofs.Common.{rules, ◌≡◌, ap, sym, ◌∙◌, subst, ◌∷◌, [], ◌++◌, refl, Some}
use Rattle.bl_turn.specs.Seats.{view_of}
use Rattle.bl_turn.specs.Views.{committed_view}
use Rattle.bl_shared.specs.Calls.{Knows, HasSeen, base_of_tree, PutsIn}
use Rattle.bl_tree.specs.Views.{TreeView, IsLegalTree, IsPutFor, extended, put_entry}
use Rattle.bl_tree.specs.Answers.{born_for}
use Rattle.bl_shared.proofs.Turning.{commits_at, put_found}
use Rattle.bl_shared.proofs.shared.SharedTree.put.Goals as goal

pub put-born-requires : goal.put-born-requires
put-born-requires g c =
    subst (λ n. IsPutFor c.value-2.result.now.tree n c.args.lease c.args.outcome)
    (sym c.number-number.ensures)
    (put_found (view_of c.args.seat.now) _ c.value-2.result.now.tree c.args.lease c.args.outcome
    c.enter-held.ensures.history (search rules) (search rules) (search rules) c.requires.fits)

pub returns-clause-seat : goal.returns-clause-seat
returns-clause-seat g c =
    let v = view_of c.args.seat.now in
    let n = c.number-number.ensures in
    let old = c.value-2.result.now.tree in
    let new = c.put-born.new.self.tree in
    let e = put_entry (view_of c.args.seat.now).number c.args.lease.id c.args.outcome in
    let history = c.enter-held.result.seat.now.place.me.0.found in
    let found : c.enter-held.result.seat.now.place.me.0.found
    ≡ c.value-2.result.now.tree.history = search rules in
    let base : (view_of c.args.seat.now).base ≡ Some (base_of_tree c.value-2.result.now.tree) =
    search rules in
    let legal : IsLegalTree c.value-2.result.now.tree = search rules in
    let entry : c.put-born.new.self.tree
    ≡ extended c.value-2.result.now.tree (put_entry (view_of c.args.seat.now).number
    c.args.lease.id c.args.outcome) = subst (λ k. c.put-born.new.self.tree
    ≡ extended c.value-2.result.now.tree (put_entry k c.args.lease.id c.args.outcome)) n
    c.put-born.ensures.entry in
    let fits = put_found v history old c.args.lease c.args.outcome c.enter-held.ensures.history
    found base legal c.requires.fits in
    let told = ap (λ (t : TreeView). t.history) entry ∙ ap (λ h. h ++ e ∷ []) (sym found) in
    let is = c.leave.ensures.view ∙ (c.commit.ensures.view e told
    ∙ ap (λ u. committed_view u history e) c.enter-held.ensures.view) in
    let t = commits_at v _ history e old new
    (λ old new. IsPutFor old (view_of c.args.seat.now).number c.args.lease c.args.outcome
    × (new ≡ extended old (put_entry (view_of c.args.seat.now).number c.args.lease.id
    c.args.outcome)) × (c.put-born.result ≡ born_for old c.args.outcome.next))
    c.enter-held.ensures.history found base entry refl is
    (fits, entry, c.put-born.ensures.born) legal c.put-born.ensures.after in
    (search rules, (search rules, search rules), subst HasSeen (search rules) t.1)

pub returns-clause-put : goal.returns-clause-put
returns-clause-put g c =
    let v = view_of c.args.seat.now in
    let n = c.number-number.ensures in
    let old = c.value-2.result.now.tree in
    let new = c.put-born.new.self.tree in
    let e = put_entry (view_of c.args.seat.now).number c.args.lease.id c.args.outcome in
    let history = c.enter-held.result.seat.now.place.me.0.found in
    let found : c.enter-held.result.seat.now.place.me.0.found
    ≡ c.value-2.result.now.tree.history = search rules in
    let base : (view_of c.args.seat.now).base ≡ Some (base_of_tree c.value-2.result.now.tree) =
    search rules in
    let legal : IsLegalTree c.value-2.result.now.tree = search rules in
    let entry : c.put-born.new.self.tree
    ≡ extended c.value-2.result.now.tree (put_entry (view_of c.args.seat.now).number
    c.args.lease.id c.args.outcome) = subst (λ k. c.put-born.new.self.tree
    ≡ extended c.value-2.result.now.tree (put_entry k c.args.lease.id c.args.outcome)) n
    c.put-born.ensures.entry in
    let fits = put_found v history old c.args.lease c.args.outcome c.enter-held.ensures.history
    found base legal c.requires.fits in
    let told = ap (λ (t : TreeView). t.history) entry ∙ ap (λ h. h ++ e ∷ []) (sym found) in
    let is = c.leave.ensures.view ∙ (c.commit.ensures.view e told
    ∙ ap (λ u. committed_view u history e) c.enter-held.ensures.view) in
    let t = commits_at v _ history e old new
    (λ old new. IsPutFor old (view_of c.args.seat.now).number c.args.lease c.args.outcome
    × (new ≡ extended old (put_entry (view_of c.args.seat.now).number c.args.lease.id
    c.args.outcome)) × (c.put-born.result ≡ born_for old c.args.outcome.next))
    c.enter-held.ensures.history found base entry refl is
    (fits, entry, c.put-born.ensures.born) legal c.put-born.ensures.after in
    subst (λ (u : Knows). PutsIn (view_of c.args.seat.now) c.args.lease c.args.outcome
    c.put-born.result u) (search rules) t.0
