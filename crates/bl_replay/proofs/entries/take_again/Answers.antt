use Rattle.std.proofs.Common.{sym, subst}
use Rattle.bl_tree.specs.Views.{TreeView}
use Rattle.bl_replay.specs.Leases.{HasLeases}
use Rattle.bl_replay.proofs.Keeping.{taken_again}
use Rattle.bl_replay.proofs.entries.take_again.Goals as goal

pub returns-clause-held : goal.returns-clause-held
returns-clause-held c =
    let taken = rw c.in-Node.is at c.in_ok-lease.ensures.taken in
    subst (λ (t : TreeView). HasLeases t c.keep.new.leases) (sym c.in_ok-keep-in-Node.ensures.same)
    (taken_again c.args.tree.now c.take.new.self c.args.seat c.args.id c.args.leases.now
    c.keep.new.leases c.in-Node.lease c.journal-journal.ensures.legal
    c.requires.held c.requires.allowed taken c.in_ok-keep-in-Node.ensures.kept)
