-- What a run promises, by what was to be written and how that was ended.
use Rattle.std.proofs.Common.{◌≡◌, ◌≢◌, ◌≤◌, ◌<◌, ◌⊎◌, Bool, List, None, arith, false, true}
use Rattle.std.proofs.Common.{inl, inr, refl, subst, sym, ◌∙◌, ℕ, Ok, Err, Result}
use Rattle.std.specs.declared.alloc.Global.{Global}
use Rattle.std.specs.declared.string.String.{String}
use Rattle.bl_io.specs.Causes.{Rose}
use Rattle.bl_report.specs.Texts.{fault_line, long_line, model_line}
use Rattle.bl_run.specs.Runs.{AskToMake, EndsAs, EndsByReply, EndsByStop, EndsWithAnswer}
use Rattle.bl_run.specs.Runs.{EndsWithLine, EndsWithModel, HasReply, HasRun, HasStopped, IsAnswered}
use Rattle.bl_run.specs.Runs.{IsModelText, IsReplied, MeanNothing, Outside, ReadsModel, TellsModel}
use Rattle.bl_run.specs.Runs.{WritesAnswer, WritesLine, WritesReply, WritesReplyPart, is_refused}
use Rattle.bl_run.specs.Runs.{is_too_long}
use Rattle.bl_run.specs.declared.top.Answered.{Answered}
use Rattle.bl_run.specs.declared.top.Ended.{Ended}
use Rattle.bl_run.specs.declared.top.Reply.{Reply}
use Rattle.bl_run.specs.declared.top.Reply.TheVariants.{Answer, Model as ModelText}
use Rattle.bl_run.specs.declared.top.Stop.{Stop}
use Rattle.bl_run.specs.declared.top.Stop.TheVariants.{Words, TooLong, Model, Read, Memory}
use Rattle.bl_run.proofs.Replies.{answer_part, answer_whole, model_part, model_whole}

-- a reply's status is at most 1 or 5
other : (s n : ℕ) → (s ≤ 1) ⊎ (s ≡ 5) → s ≡ n → 1 < n → n ≢ 5 → ⊥
other s n (inl few) e more five = omega (arith, few, e, more)
other s n (inr is) e more five = five (sym e ∙ is)

above : (s : ℕ) → (s ≤ 1) ⊎ (s ≡ 5) → 1 < s → s ≢ 5 → ⊥
above s (inl few) more five = omega (arith, few, more)
above s (inr is) more five = five is

at_most : (s : ℕ) → (s ≤ 1) ⊎ (s ≡ 5) → s ≤ 6
at_most s (inl few) = omega (arith, few)
at_most s (inr is) = omega (arith, is)

module _ (alone : Bool) (words : List (String Global)) (ended : Ended) (old new : Outside) where
  -- a run that ended with a line, at a status above 1 that isn't 5
  ran_with_line : 2 ≤ ended.status → ended.status ≤ 6 → ended.status ≢ 5 → ended.journal ≡ None
      → (ended.status ≢ 3 → ended.status ≢ 4 → ReadsModel old new)
      → (ended.status ≡ 2 → MeanNothing alone words)
      → (MeanNothing alone words → (ended.status ≡ 2) ⊎ (ended.status ≡ 6))
      → (AskToMake alone words → (ended.status ≢ 3) × (ended.status ≢ 4))
      → (ended.status ≡ 3
      → TellsModel old.left new.left old.kept new.kept old.failed_writes new.failed_writes)
      → (ended.status ≡ 4 → Rose old.failed_reads new.failed_reads)
      → (ended.status ≢ 3 → WritesLine old.kept new.kept old.failed_writes new.failed_writes
      (fault_line ended.status))
      → HasRun alone words ended old new
  ran_with_line more most five none within meant refused made model read line = record {
    decided = λ e. absurd (omega (arith, e, more));
    limited = λ e. absurd (omega (arith, e, more));
    no_fault = λ e. absurd (omega (arith, e, more));
    within = within;
    meant = meant;
    refused = refused;
    model = model;
    read = read;
    made = made;
    write = λ e. absurd (five e);
    part = λ e. absurd (five e);
    line = λ a b d. line b;
    no_journal = λ a b. none;
    others = most;
  }

  -- the line of a fault is that of the status
  told : (status : ℕ)
      → EndsWithLine status (fault_line status) ended old.kept new.kept old.failed_writes
      new.failed_writes
      → WritesLine old.kept new.kept old.failed_writes new.failed_writes (fault_line ended.status)
  told status ends =
      subst (λ (n : ℕ). WritesLine old.kept new.kept old.failed_writes new.failed_writes
      (fault_line n)) (sym ends.status_is) ends.written

  -- for want of memory
  ran_for_memory : EndsWithLine 6 (fault_line 6) ended old.kept new.kept old.failed_writes
      new.failed_writes → ReadsModel old new → HasRun alone words ended old new
  ran_for_memory ends within =
      let six = ends.status_is in
      ran_with_line (omega (arith, six)) (omega (arith, six)) (λ e. omega (arith, six, e))
      ends.no_journal (λ a b. within) (λ e. absurd (omega (arith, six, e))) (λ n. inr six)
      (λ m. (λ e. omega (arith, six, e), λ e. omega (arith, six, e)))
      (λ e. absurd (omega (arith, six, e))) (λ e. absurd (omega (arith, six, e)))
      (λ b. told 6 ends)

  -- where what was read is not a model: the line tells why
  ran_for_model : (line : List ℕ) → EndsWithLine 3 line ended old.kept new.kept old.failed_writes
      new.failed_writes
      → TellsModel old.left new.left old.kept new.kept old.failed_writes new.failed_writes
      → (MeanNothing alone words → ⊥) → (AskToMake alone words → ⊥)
      → HasRun alone words ended old new
  ran_for_model line ends tells accepted reads =
      let three = ends.status_is in
      ran_with_line (omega (arith, three)) (omega (arith, three)) (λ e. omega (arith, three, e))
      ends.no_journal (λ a b. absurd (a three)) (λ e. absurd (omega (arith, three, e)))
      (λ n. absurd (accepted n)) (λ m. absurd (reads m)) (λ e. tells)
      (λ e. absurd (omega (arith, three, e))) (λ b. absurd (b three))

  -- where there is nothing to write
  ran_by_stop : (stop : Stop)
      → HasStopped alone words old.left new.left old.failed_reads new.failed_reads stop
      → EndsByStop stop ended old.kept new.kept old.failed_writes new.failed_writes
      → HasRun alone words ended old new
  ran_by_stop Words why ends =
      let two = ends.status_is in
      ran_with_line (omega (arith, two)) (omega (arith, two)) (λ e. omega (arith, two, e))
      ends.no_journal (λ a b. why.cause) (λ e. why.meant refl) (λ n. inl two)
      (λ m. (λ e. omega (arith, two, e), λ e. omega (arith, two, e)))
      (λ e. absurd (omega (arith, two, e))) (λ e. absurd (omega (arith, two, e)))
      (λ b. told 2 ends)
  ran_by_stop TooLong why ends = ran_for_model long_line ends
      (record {
        line = long_line;
        unreadable = is_too_long why.cause refl;
        written = ends.written;
      })
      why.refused why.made
  ran_by_stop (Model line what) why (inl ends) = ran_for_model _ ends
      (record {
        line = model_line (record { line = line; what = what });
        unreadable = is_refused why.cause.1;
        written = ends.written;
      })
      why.refused why.made
  ran_by_stop (Model line what) why (inr ends) = ran_for_memory ends why.cause.0
  ran_by_stop Read why ends =
      let four = ends.status_is in
      ran_with_line (omega (arith, four)) (omega (arith, four)) (λ e. omega (arith, four, e))
      ends.no_journal (λ a b. absurd (b four)) (λ e. absurd (omega (arith, four, e)))
      (λ n. absurd (why.refused n)) (λ m. absurd (why.made m))
      (λ e. absurd (omega (arith, four, e))) (λ e. why.cause) (λ b. told 4 ends)
  ran_by_stop Memory why ends = ran_for_memory ends why.cause

  -- a run that wrote what is to be written, whole or in part
  ran_with_reply : (ended.status ≤ 1) ⊎ (ended.status ≡ 5)
      → (ended.status ≡ 0 → WritesReply alone words ended old new)
      → (ended.status ≡ 1
      → WritesAnswer alone words true ended.journal old.left new.left old.kept new.kept)
      → (ended.status ≤ 1 → new.failed_writes ≡ old.failed_writes)
      → (ended.status ≡ 5 → Rose old.failed_writes new.failed_writes)
      → (ended.status ≡ 5 → WritesReplyPart alone words ended old new)
      → ReadsModel old new → (MeanNothing alone words → ⊥) → HasRun alone words ended old new
  ran_with_reply few whole spent same failed part within meant = record {
    decided = whole;
    limited = spent;
    no_fault = same;
    within = λ a b. within;
    meant = λ e. absurd (other ended.status 2 few e (omega arith) (λ d. omega (arith, d)));
    refused = λ nothing. absurd (meant nothing);
    model = λ e. absurd (other ended.status 3 few e (omega arith) (λ d. omega (arith, d)));
    read = λ e. absurd (other ended.status 4 few e (omega arith) (λ d. omega (arith, d)));
    made = λ m. (
      λ e. other ended.status 3 few e (omega arith) (λ d. omega (arith, d)),
      λ e. other ended.status 4 few e (omega arith) (λ d. omega (arith, d)),
    );
    write = failed;
    part = part;
    line = λ a b d. absurd (above ended.status few a d);
    no_journal = λ a b. absurd (above ended.status few a b);
    others = at_most ended.status few;
  }

  -- a run that wrote the answer of a search
  ran_with_answer : (a : Answered)
      → EndsWithAnswer a ended old.kept new.kept old.failed_writes new.failed_writes
      → IsAnswered alone words old.left new.left a.limited a.journal.entries a.text.items
      → ReadsModel old new → (MeanNothing alone words → ⊥) → HasRun alone words ended old new
  ran_with_answer a ends answered within meant =
      ran_with_reply ends.others
      (λ e. inl (answer_whole alone words ended.journal _ _ _ _ a.limited false a.journal
      a.text.items (ends.decided e) ends.journal answered (ends.whole (omega (arith, e)))))
      (λ e. answer_whole alone words ended.journal _ _ _ _ a.limited true a.journal a.text.items
      (ends.limited e) ends.journal answered (ends.whole (omega (arith, e))))
      ends.no_fault ends.cause
      (λ e. inl (answer_part alone words ended.journal _ _ _ _ a.limited a.journal a.text.items
      ends.journal answered (ends.part e)))
      within meant

  -- a run that wrote the text of a problem
  ran_with_model : (text : List ℕ)
      → EndsWithModel text ended old.kept new.kept old.failed_writes new.failed_writes
      → IsModelText alone words old.left new.left text
      → ReadsModel old new → (MeanNothing alone words → ⊥) → HasRun alone words ended old new
  ran_with_model text ends model within meant =
      ran_with_reply (few ends.status)
      (λ e. inr (model_whole alone words ended.journal _ _ _ _ text ends.no_journal model
      (ends.whole e)))
      (λ e. absurd (not_one ends.status e))
      (λ e. ends.no_fault (is_zero ends.status e))
      ends.cause
      (λ e. inr (model_part alone words ended.journal _ _ _ _ text ends.no_journal model
      (ends.part e)))
      within meant
    where
      few : (ended.status ≡ 0) ⊎ (ended.status ≡ 5) → (ended.status ≤ 1) ⊎ (ended.status ≡ 5)
      few (inl e) = inl (omega (arith, e))
      few (inr e) = inr e

      not_one : (ended.status ≡ 0) ⊎ (ended.status ≡ 5) → ended.status ≡ 1 → ⊥
      not_one (inl e) one = omega (arith, e, one)
      not_one (inr e) one = omega (arith, e, one)

      is_zero : (ended.status ≡ 0) ⊎ (ended.status ≡ 5) → ended.status ≤ 1 → ended.status ≡ 0
      is_zero (inl e) least = e
      is_zero (inr e) least = absurd (omega (arith, e, least))

  ran_by_reply : (reply : Reply)
      → HasReply alone words old.left new.left old.failed_reads new.failed_reads reply
      → EndsByReply reply ended old.kept new.kept old.failed_writes new.failed_writes
      → HasRun alone words ended old new
  ran_by_reply (Answer a) has ends = ran_with_answer a ends has.text has.within has.accepted
  ran_by_reply (ModelText text) has ends =
      ran_with_model text.items ends has.text has.within has.accepted

  pub has_run : (reply : Result Reply Stop)
      → IsReplied alone words old.left new.left old.failed_reads new.failed_reads reply
      → EndsAs reply ended old.kept new.kept old.failed_writes new.failed_writes
      → HasRun alone words ended old new
  has_run (Ok reply) has ends = ran_by_reply reply has ends
  has_run (Err stop) why ends = ran_by_stop stop why ends
