use Rattle.std.proofs.Common.{rules, ◌≡◌, ap, sym, ◌∙◌, subst, ◌∷◌, [], ◌++◌, refl, Some}
use Rattle.bl_turn.specs.Seats.{view_of}
use Rattle.bl_turn.specs.Views.{committed_view}
use Rattle.bl_shared.specs.Calls.{HasSeen, base_of_tree}
use Rattle.bl_journal.specs.declared.entry.Entry.TheVariants.{Encode}
use Rattle.bl_tree.specs.Views.{TreeView, extended}
use Rattle.bl_tree.specs.declared.plan.Installed.TheVariants.{Made}
use Rattle.bl_shared.proofs.Turning.{commits_at, job_found}
use Rattle.bl_shared.proofs.shared.SharedTree.install.Goals as goal

pub install-requires : goal.install-requires
install-requires g c =
    job_found (view_of c.args.seat.now) _ c.value.result.now.tree c.args.job c.jobs_stay.ensures
    c.enter-held.ensures.history (search rules) (search rules) c.requires.seat.2.legal
    c.requires.job

pub returns-in-Made-clause-seat : goal.returns-in-Made-clause-seat
returns-in-Made-clause-seat g c =
    let v = view_of c.args.seat.now in
    let n = c.number-number.ensures in
    let old = c.value.result.now.tree in
    let new = c.install.new.self.tree in
    let e = Encode (view_of c.args.seat.now).number c.args.job.id c.args.job.form in
    let history = c.enter-held.result.seat.now.place.me.0.found in
    let found : c.enter-held.result.seat.now.place.me.0.found ≡ c.value.result.now.tree.history =
    search rules in
    let base : (view_of c.args.seat.now).base ≡ Some (base_of_tree c.value.result.now.tree) =
    search rules in
    let answer : c.in-Ok.spent ≡ Made = sym c.installed.ensures ∙ c.in-Made.is in
    let made = rw answer at c.in-Ok.ensures.installed in
    let entry : c.install.new.self.tree ≡ extended c.value.result.now.tree
    (Encode (view_of c.args.seat.now).number c.args.job.id c.args.job.form) =
    subst (λ k. c.install.new.self.tree
    ≡ extended c.value.result.now.tree (Encode k c.args.job.id c.args.job.form)) n made.1 in
    let told = ap (λ (t : TreeView). t.history) entry ∙ ap (λ h. h ++ e ∷ []) (sym found) in
    let is = c.leave.ensures.view ∙ (c.commit.ensures.view e told
    ∙ ap (λ u. committed_view u history e) c.enter-held.ensures.view) in
    let t = commits_at v _ history e old new (λ old new. new ≡ extended old
    (Encode (view_of c.args.seat.now).number c.args.job.id c.args.job.form))
    c.enter-held.ensures.history found base entry refl is entry c.install.ensures.before
    c.install.ensures.after in
    (search rules, (search rules, search rules), subst HasSeen (search rules) t.1)
