use Rattle.std.proofs.Common.{sym, subst}
use Rattle.bl_tree.specs.Views.{TreeView}
use Rattle.bl_replay.specs.Leases.{HasLeases}
use Rattle.bl_replay.proofs.Forms.{encoded_again}
use Rattle.bl_replay.proofs.Keeping.{leases_encode}
use Rattle.bl_replay.proofs.entries.encode_again.Goals as goal

pub returns-clause-entry : goal.returns-clause-entry
returns-clause-entry c =
    let planned = (rw c.in-Chain.is at c.in_ok-plan.ensures).1 in
    encoded_again c.args.tree.now c.install.new.self c.args.seat c.args.id c.args.form
    c.in-Chain.plan c.in_ok-job.job c.in_ok-install.field-0 c.requires.allowed planned
    c.in_ok-job.ensures c.in_ok-install.ensures.installed

pub returns-clause-held : goal.returns-clause-held
returns-clause-held c =
    let planned = (rw c.in-Chain.is at c.in_ok-plan.ensures).1 in
    let entered = encoded_again c.args.tree.now c.install.new.self c.args.seat c.args.id
    c.args.form c.in-Chain.plan c.in_ok-job.job c.in_ok-install.field-0 c.requires.allowed
    planned c.in_ok-job.ensures c.in_ok-install.ensures.installed in
    subst (λ (u : TreeView). HasLeases u c.args.leases.now) (sym entered)
    (leases_encode c.args.tree.now c.args.seat c.args.id c.args.form c.args.leases.now
    c.journal-journal.ensures.legal c.requires.held)
