use Rattle.std.proofs.Common.{◌≡◌, sym, subst, rules}
use Rattle.bl_journal.specs.declared.entry.Entry.TheVariants.{Back}
use Rattle.bl_tree.specs.Views.{TreeView, extended}
use Rattle.bl_replay.specs.Leases.{HasLeases}
use Rattle.bl_replay.proofs.Keeping.{leases_back}
use Rattle.bl_replay.proofs.entries.back_again.Goals as goal

pub returns-clause-held : goal.returns-clause-held
returns-clause-held c =
    let t = c.args.tree.now in
    let entered : c.back.new.self ≡ extended t (Back c.args.seat c.args.id) = search rules in
    subst (λ (u : TreeView). HasLeases u c.remove.new.self) (sym entered)
    (leases_back t c.args.seat c.args.id c.args.leases.now c.remove.new.self
    c.journal-journal.ensures.legal c.requires.held c.remove.ensures.updates)
