use Rattle.std.proofs.Common.{refl, ap, sym, ◌∙◌}
use Rattle.bl_journal.specs.Pieces.{rebuilt}
use Rattle.bl_tree.specs.Views.{LeaseView}
use Rattle.bl_tree.specs.Chains.{described_by}
use Rattle.bl_tree.proofs.Chained.{rebuilt_is}
use Rattle.bl_tree.proofs.lease.parts_of.Goals as goal

pub returns-clause-gives : goal.returns-clause-gives
returns-clause-gives c =
    ap (λ (v : LeaseView). rebuilt v.chain) (sym c.lease.view_is)
    ∙ rebuilt_is c.lease.inside.chain (described_by c.lease.inside.chain)
    (record { whole = c.lease.invariant.whole; fits = c.lease.invariant.fits; gives = refl })
