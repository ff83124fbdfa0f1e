use Rattle.std.proofs.Common.{sym, subst}
use Rattle.bl_tree.specs.Views.{TreeView}
use Rattle.bl_replay.specs.Leases.{HasLeases}
use Rattle.bl_replay.proofs.Chains.{freed_again}
use Rattle.bl_replay.proofs.Keeping.{leases_free}
use Rattle.bl_replay.proofs.entries.free_again.Goals as goal

pub returns-clause-entry : goal.returns-clause-entry
returns-clause-entry c = freed_again c.args.tree.now c.free.new.self c.args.seat c.args.ids.now
    c.in_ok-free.field-0 c.requires.allowed c.in_ok-free.ensures.freed

pub returns-clause-held : goal.returns-clause-held
returns-clause-held c =
    let entered = freed_again c.args.tree.now c.free.new.self c.args.seat c.args.ids.now
    c.in_ok-free.field-0 c.requires.allowed c.in_ok-free.ensures.freed in
    subst (λ (u : TreeView). HasLeases u c.args.leases.now) (sym entered)
    (leases_free c.args.tree.now c.args.seat c.args.ids.now c.args.leases.now
    c.journal-journal.ensures.legal c.requires.held)
