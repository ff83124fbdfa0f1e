use Rattle.std.proofs.Common.{refl, ap, sym, ◌∙◌}
use Rattle.bl_journal.specs.Pieces.{rebuilt}
use Rattle.bl_tree.specs.Views.{LeaseView}
use Rattle.bl_tree.specs.Chains.{described_by}
use Rattle.bl_tree.proofs.Chained.{rebuilt_is}
use Rattle.bl_tree.proofs.lease.Lease.chain.Goals as goal

pub returns-clause-gives : goal.returns-clause-gives
returns-clause-gives c =
    ap (λ (v : LeaseView). rebuilt v.chain) (sym c.self.view_is)
    ∙ rebuilt_is c.self.inside.chain (described_by c.self.inside.chain)
    (record { whole = c.self.invariant.whole; fits = c.self.invariant.fits; gives = refl })
