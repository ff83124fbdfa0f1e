-- From what the words ask for to what is to be written, and from there to what was written.
use Rattle.std.proofs.Common.{◌≡◌, Bool, List, ℕ, subst, sym, Option, None, Some, true}
use Rattle.std.specs.Prelude.{Err, IfErr, IfOk, Ok, Result}
use Rattle.std.specs.declared.alloc.Global.{Global}
use Rattle.std.specs.declared.string.String.{String}
use Rattle.std.specs.Io.KnownBytes.{Appends}
use Rattle.bl_io.specs.Streams.{AppendsPrefix}
use Rattle.bl_journal.specs.Kept.{Kept}
use Rattle.bl_run.specs.Runs.{HasStopped, IsAnswered, IsAsked, IsModelOf, IsModelText, IsReplied}
use Rattle.bl_run.specs.Runs.{WritesAnswer, WritesModel, WritesModelPart, WritesPart}
use Rattle.bl_run.specs.declared.top.Asked.{Asked}
use Rattle.bl_run.specs.declared.top.Reply.{Reply}
use Rattle.bl_run.specs.declared.top.Reply.TheVariants.{Answer, Model as ModelText}
use Rattle.bl_run.specs.declared.top.Stop.{Stop}
use Rattle.bl_run.specs.declared.top.Stop.TheVariants.{Words, TooLong, Model, Read, Memory}

-- no words are refused
abbrev IsNotWords : Stop → Type 0
IsNotWords Words = ⊥
IsNotWords TooLong = Unit {0}
IsNotWords (Model line what) = Unit {0}
IsNotWords Read = Unit {0}
IsNotWords Memory = Unit {0}

module _ (alone : Bool) (words : List (String Global)) (left left' : Option (List ℕ))
    (faults faults' : ℕ) (asked : Asked)
    (is : IsAsked alone words left left' faults faults' asked) where
  -- want of memory after the problem was had
  pub stopped_for_memory : HasStopped alone words left left' faults faults' Memory
  stopped_for_memory = record {
    meant = λ e. absurd (subst IsNotWords e tt);
    refused = λ nothing. absurd (is.accepted nothing);
    made = λ m. tt;
    cause = is.within;
  }

  -- the text of the problem, or want of memory for it
  pub model_replied : (reply : Result Reply Stop) → asked.wish.write ≡ true
      → IfOk reply (IsModelOf asked.problem) → IfErr reply (λ e. e ≡ Memory)
      → IsReplied alone words left left' faults faults' reply
  model_replied (Ok (Answer a)) writes text memory = absurd text
  model_replied (Ok (ModelText text)) writes text_is memory = record {
    text = record {
      wish = asked.wish;
      meant = is.meant;
      writes = writes;
      problem = asked.problem;
      given = is.given;
      is = text_is;
    };
    accepted = is.accepted;
    within = is.within;
  }
  model_replied (Err stop) writes text memory =
      subst (HasStopped alone words left left' faults faults') (sym memory) stopped_for_memory

module _ (alone : Bool) (words : List (String Global)) (journal : Option Kept)
    (left left' kept kept' : Option (List ℕ)) where
  pub answer_whole : (b limited : Bool) (stands : Kept) (text : List ℕ) → b ≡ limited → journal
      ≡ Some stands → IsAnswered alone words left left' b stands.entries text
      → Appends kept kept' text
      → WritesAnswer alone words limited journal left left' kept kept'
  answer_whole b limited stands text is has answered all = record {
    stands = stands;
    journal_is = has;
    text = text;
    answered = subst (λ (x : Bool). IsAnswered alone words left left' x stands.entries text) is
        answered;
    written = all;
  }

  pub answer_part : (limited : Bool) (stands : Kept) (text : List ℕ) → journal ≡ Some stands
      → IsAnswered alone words left left' limited stands.entries text
      → AppendsPrefix kept kept' text → WritesPart alone words journal left left' kept kept'
  answer_part limited stands text has answered part =
      record {
        limited = limited;
        stands = stands;
        journal_is = has;
        text = text;
        answered =
            answered;
        written = part;
      }

  pub model_whole : (text : List ℕ) → journal ≡ None → IsModelText alone words left left' text
      → Appends kept kept' text → WritesModel alone words journal left left' kept kept'
  model_whole text none model all =
      record { no_journal = none; text = text; model = model; written = all }

  pub model_part : (text : List ℕ) → journal ≡ None → IsModelText alone words left left' text
      → AppendsPrefix kept kept' text → WritesModelPart alone words journal left left' kept kept'
  model_part text none model part =
      record { no_journal = none; text = text; model = model; written = part }
