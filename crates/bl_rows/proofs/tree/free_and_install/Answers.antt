use Rattle.std.proofs.Common.{[], ◌∷◌, sym, subst}
use Rattle.bl_journal.specs.declared.entry.Entry.TheVariants.{Free}
use Rattle.bl_tree.specs.Views.{TreeView}
use Rattle.bl_tree.specs.Jobs.{IsJobOf}
use Rattle.bl_rows.proofs.tree.free_and_install.Goals as goal

pub install-requires : goal.install-requires
install-requires c =
    let freed = rw c.in-Chain.is at c.in_ok-freed.ensures.freed in
    subst (λ (t : TreeView). IsJobOf t c.args.job) (sym freed.1)
    (c.jobs_stay.ensures c.args.tree.now (Free 0 c.in-Chain.freed ∷ []) c.args.job
    c.journal-journal.ensures.legal c.requires)
