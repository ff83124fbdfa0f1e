use Rattle.std.proofs.Common.{subst, sym}
use Rattle.std.specs.Prelude.{reverse}
use Rattle.std.proofs.lemmas.List.{reverse-append}
use Rattle.bl_journal.specs.Tidying.{IsTidied}
use Rattle.bl_journal.proofs.Others.{others_back}
use Rattle.bl_journal.proofs.Upkeep.{tidied_others}
use Rattle.bl_journal.proofs.laws.seats_stay_tidy.Goals as goal

pub returns : goal.returns
returns c = λ p s seat history rest none tidied.
    subst (IsTidied p s seat) (sym (reverse-append history rest))
    (tidied_others p s seat (reverse rest) (reverse history) tidied (others_back seat rest none))
