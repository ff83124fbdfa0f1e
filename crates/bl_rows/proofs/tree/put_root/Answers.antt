use Rattle.std.proofs.Common.{sym, subst}
use Rattle.bl_journal.specs.declared.outcome.Outcome.{Outcome}
use Rattle.bl_tree.specs.Views.{TreeView, IsLeaseOf, IsPutFor}
use Rattle.bl_rows.proofs.Covering.{taken_tree, split_fits}
use Rattle.bl_rows.proofs.tree.put_root.Goals as goal

pub put-requires : goal.put-requires
put-requires c =
    let leased = subst (λ (t : TreeView). IsLeaseOf t 0 c.args.lease) c.requires.tree
    c.requires.leased in
    let fits = split_fits c.args.gap c.args.lease c.args.found c.requires.found leased
    c.requires.root in
    subst (λ (t : TreeView). IsPutFor t 0 c.args.lease c.in-Ok.outcome) (sym c.requires.tree)
    (subst (λ (o : Outcome). IsPutFor (taken_tree c.args.gap) 0 c.args.lease o)
    (sym c.in-Ok.ensures) fits)
