use Rattle.std.proofs.Common.{subst}
use Rattle.std.specs.Prelude.{Contains}
use Rattle.bl_journal.specs.Legality.{seat_of}
use Rattle.bl_turn.specs.Entries.{entries_by}
use Rattle.bl_turn.specs.Seats.{ended}
use Rattle.bl_shared.proofs.shared.SharedTree.close.Goals as goal

pub returns-clause-every : goal.returns-clause-every
returns-clause-every c =
    λ n low high. subst (λ h. Contains (ended c.args.seat) (n, entries_by seat_of n h))
    c.close-tree.ensures.seen (c.close-tree.ensures.every n low high)
