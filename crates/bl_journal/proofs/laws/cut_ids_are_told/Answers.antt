use Rattle.std.proofs.Common.{refl, subst}
use Rattle.std.specs.Prelude.{reverse, Contains}
use Rattle.bl_journal.specs.Legality.{ids_added}
use Rattle.bl_journal.proofs.Others.{added_by_own}
use Rattle.bl_journal.proofs.Endings.{entries_of-reverse}
use Rattle.bl_journal.proofs.laws.cut_ids_are_told.Goals as goal

pub returns : goal.returns
returns c = λ p s history x l h.
    subst (λ es. Contains (ids_added es) x) (entries_of-reverse x.seat history)
    (added_by_own p s (reverse history) x.seat x l.steps refl h)
