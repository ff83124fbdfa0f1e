use Rattle.std.proofs.Common.{◌≡◌, List, ◌++◌, false, subst, sym}
use Rattle.std.specs.Prelude.{reverse}
use Rattle.std.proofs.lemmas.List.{reverse-append}
use Rattle.bl_journal.specs.declared.entry.Entry.{Entry}
use Rattle.bl_journal.specs.States.{state_of, used_of}
use Rattle.bl_journal.specs.Replies.{is_out}
use Rattle.bl_journal.specs.Results.{HasNoLive}
use Rattle.bl_journal.specs.Legality.{IsLegalPast}
use Rattle.bl_journal.proofs.Living.{Each}
use Rattle.bl_journal.proofs.Workable.{Each-from_all}
use Rattle.bl_journal.specs.Seats.{is_back, HasNoBack, IsOver}
use Rattle.bl_journal.proofs.Others.{All-reverse}
use Rattle.bl_journal.proofs.Endings.{stays_done, stays_spent, ends_over}
use Rattle.bl_journal.proofs.laws.searches_end.Goals as goal

no_back : (rest : List Entry) → HasNoBack rest → Each (λ e. is_back e ≡ false) (reverse rest)
no_back rest a = Each-from_all (λ e. is_back e ≡ false) (reverse rest)
    (All-reverse (λ e. is_back e ≡ false) rest a)

pub returns : goal.returns
returns c = λ p s history rest l.
    let turned = reverse-append history rest in
    let steps : IsLegalPast p s (reverse rest ++ reverse history) =
    subst (IsLegalPast p s) turned l.steps in
    record {
      none_live = λ none. subst (HasNoLive p s) (sym turned)
          (stays_done p s (reverse rest) (reverse history) steps none);
      all_used = λ none used. subst (λ h. used_of h ≡ s.nodes) (sym turned)
          (stays_spent p s (reverse rest) (reverse history) steps (no_back rest none) used);
      over = λ none_out none over. subst (IsOver p s) (sym turned)
          (ends_over p s (reverse rest) (reverse history) steps
          (λ id. subst (λ h. is_out (state_of h id) ≡ false) turned (none_out id))
          (no_back rest none) over);
    }
