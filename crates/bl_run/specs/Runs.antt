-- What a run did: each status has its cause.
use Rattle.std.specs.Prelude.{◌≡◌, ◌≢◌, ◌<◌, ◌≤◌, ◌⊎◌, ◌+◌, ◌*◌, ◌^◌, ◌++◌, ℕ, pos, Bool, List}
use Rattle.std.specs.Prelude.{[], Some, None, Ok, Err, true, false, is_some, map, reverse}
use Rattle.std.specs.Prelude.{string_bytes}
use Rattle.std.specs.declared.option.Option.{Option}
use Rattle.std.specs.declared.result.Result.{Result}
use Rattle.std.specs.declared.alloc.Global.{Global}
use Rattle.std.specs.declared.string.String.{String}
use Rattle.std.specs.Io.KnownBytes.{Appends}
use Rattle.bl_io.specs.Streams.{IsReadToEnd, Takes, ReadsWithin, AppendsPrefix}
use Rattle.bl_io.specs.Causes.{Rose}
use Rattle.bl_run.specs.declared.top.TheConstants.{MOST_BYTES}
use Rattle.bl_problem.specs.Program.{Program}
use Rattle.bl_cards.specs.Reading.{Fault}
use Rattle.bl_mps.specs.Reading.{read_of}
use Rattle.bl_journal.specs.declared.entry.Entry.{Entry}
use Rattle.bl_journal.specs.declared.settings.Settings.{Settings}
use Rattle.bl_journal.specs.Kept.{Kept}
use Rattle.bl_journal.specs.Pieces.{held_of}
use Rattle.bl_journal.specs.Results.{answer_of, IsTrueFor}
use Rattle.bl_log.specs.Log.{text_of}
use Rattle.bl_run.specs.declared.top.Answered.{Answered}
use Rattle.bl_run.specs.declared.top.Asked.{Asked}
use Rattle.bl_run.specs.declared.top.Ended.{Ended}
use Rattle.bl_run.specs.declared.top.Reply.{Reply}
use Rattle.bl_run.specs.declared.top.Reply.TheVariants.{Answer, Model as ModelText}
use Rattle.bl_run.specs.declared.top.Stop.{Stop}
use Rattle.bl_run.specs.declared.top.Stop.TheVariants.{Words, TooLong, Model, Read, Memory}
use Rattle.bl_gen.specs.Made.{made}
use Rattle.bl_words.specs.Wishes.{Means, MeansNothing}
use Rattle.bl_words.specs.declared.read.WordsFault.{WordsFault}
use Rattle.bl_words.specs.declared.read.WordsFault.TheVariants.{Refused, Memory as NoMemory}
use Rattle.bl_words.specs.declared.wish.GenWish.{GenWish}
use Rattle.bl_words.specs.declared.wish.Wish.{Wish}
use Rattle.bl_search.specs.Places.{SplitsAt}
use Rattle.bl_search.specs.Searches.{IsEndedHistory}
use Rattle.bl_run.specs.Splitting.{IsSplitBy}
use Rattle.bl_report.specs.Texts.{fault_line, verdict_text, held_line, model_line, long_line}
use Rattle.bl_write.specs.Written.{written}

-- the words ask for this; `alone` is true for the program in which seat 0 searches alone
abbrev pub AskFor : Bool → List (String Global) → Wish → Type 0
AskFor alone words wish = Means alone (map string_bytes words) wish

abbrev pub MeanNothing : Bool → List (String Global) → Type 0
MeanNothing alone words = MeansNothing alone (map string_bytes words)

-- the words ask for a problem that is made from a number
pub record AskToMake (alone : Bool) (words : List (String Global)) : Type 0 where
  pub wish : Wish
  pub meant : AskFor alone words wish
  pub makes : is_some wish.generate ≡ true

-- how many workers search beside seat 0
abbrev pub workers_of : Bool → ℕ → ℕ
workers_of true workers = 0
workers_of false workers = workers

-- the source was read to its end, and its bytes mean this problem
pub record IsRead (before now : Option (List ℕ)) (problem : Program) : Type 0 where
  pub bytes : List ℕ
  pub whole : IsReadToEnd before now MOST_BYTES bytes
  pub reads : read_of bytes ≡ Ok problem

-- the problem to be solved: the one that the source gives, or else the one that is made
abbrev pub IsGiven : Option GenWish → Option (List ℕ) → Option (List ℕ) → Program → Type 0
IsGiven None before now problem = IsRead before now problem
IsGiven (Some sizes) before now problem = problem ≡ made sizes.start sizes.columns sizes.rows

-- the settings of the wish for a problem: its gap, a number of whole units, in the units of the
-- problem's values
abbrev pub settings_for : Wish → Program → Settings
settings_for w p = record {
  nodes = w.settings.nodes;
  span = w.settings.span;
  order =
      w.settings.order;
  gap = pos (w.gap * 10 ^ p.scale);
}

-- the answer to a problem that was made has no lines of columns
abbrev pub shows_columns : Option GenWish → Bool
shows_columns None = true
shows_columns (Some sizes) = false

-- what a log tells before the answer: the journal's lines, and how many entries the stored
-- pieces have
abbrev pub log_lines : Bool → List Entry → ℕ → List ℕ
log_lines false history held = []
log_lines true history held = text_of history ++ held_line held

-- the text of a search's answer, behind its log where the wish asks for one
abbrev pub run_text : Wish → Program → List Entry → List ℕ
run_text w p history =
    log_lines w.log history (held_of p (settings_for w p) (reverse history))
    ++ verdict_text p (shows_columns w.generate) (answer_of p (settings_for w p) (reverse history))

-- the words are accepted and a problem is given; a search of its tree by the wish has ended,
-- each split is where the wish says, and the text is that of the search's answer, which is true
pub record IsAnswered (alone : Bool) (words : List (String Global)) (before now : Option (List ℕ))
    (limited : Bool) (history : List Entry) (text : List ℕ) : Type 0 where
  pub wish : Wish
  pub meant : AskFor alone words wish
  pub solves : wish.write ≡ false
  pub problem : Program
  pub given : IsGiven wish.generate before now problem
  pub ended : IsEndedHistory problem (settings_for wish problem) (workers_of alone wish.workers)
      limited history
  pub places : SplitsAt (IsSplitBy wish.half) problem (reverse history)
  pub is_true : IsTrueFor problem (answer_of problem (settings_for wish problem) (reverse history))
  pub is : text ≡ run_text wish problem history

-- a search of the problem's tree by the wish has ended, each split is where the wish says, and
-- the text is that of the search's answer, which is true
pub record IsSolved (workers : ℕ) (problem : Program) (wish : Wish) (answered : Answered) : Type 0
  where
    pub ended : IsEndedHistory problem (settings_for wish problem) workers answered.limited
        answered.journal.entries
    pub places : SplitsAt (IsSplitBy wish.half) problem (reverse answered.journal.entries)
    pub is_true : IsTrueFor problem
        (answer_of problem (settings_for wish problem) (reverse answered.journal.entries))
    pub is : answered.text.items ≡ run_text wish problem answered.journal.entries

-- the words are accepted, a problem is given, and it is to be written: this is its text
pub record IsModelText (alone : Bool) (words : List (String Global))
    (before now : Option (List ℕ)) (text : List ℕ) : Type 0 where
  pub wish : Wish
  pub meant : AskFor alone words wish
  pub writes : wish.write ≡ true
  pub problem : Program
  pub given : IsGiven wish.generate before now problem
  pub is : text ≡ written problem

-- what is to be written: the text of a search's answer, or of the problem
abbrev pub IsReply : Bool → List (String Global) → Option (List ℕ) → Option (List ℕ) → Reply
    → Type 0
IsReply alone words before now (Answer a) =
    IsAnswered alone words before now a.limited a.journal.entries a.text.items
IsReply alone words before now (ModelText text) = IsModelText alone words before now text.items

-- the text of this problem is to be written
abbrev pub IsModelOf : Program → Reply → Type 0
IsModelOf problem (Answer a) = ⊥
IsModelOf problem (ModelText text) = text.items ≡ written problem

-- the source was read to its end, its bytes have a fault, and the line tells the first one
pub record IsRefused (before now : Option (List ℕ)) (line : List ℕ) : Type 0 where
  pub bytes : List ℕ
  pub whole : IsReadToEnd before now MOST_BYTES bytes
  pub fault : Fault
  pub reads : read_of bytes ≡ Err fault
  pub tells : line ≡ model_line fault

-- one byte past the limit was read, or all the bytes, and they mean no problem; and the line
-- tells it
pub data IsUnreadable (before now : Option (List ℕ)) (line : List ℕ) : Type 0 where
  is_too_long : Takes before now (MOST_BYTES + 1) → line ≡ long_line → IsUnreadable before now line
  is_refused : IsRefused before now line → IsUnreadable before now line

-- the answer was written whole, and the journal is that of the search
pub record WritesAnswer (alone : Bool) (words : List (String Global)) (limited : Bool)
    (journal : Option Kept) (left left' kept kept' : Option (List ℕ)) : Type 0 where
  pub stands : Kept
  pub journal_is : journal ≡ Some stands
  pub text : List ℕ
  pub answered : IsAnswered alone words left left' limited stands.entries text
  pub written : Appends kept kept' text

-- a prefix of the answer was written, and the journal is that of the search
pub record WritesPart (alone : Bool) (words : List (String Global)) (journal : Option Kept)
    (left left' kept kept' : Option (List ℕ)) : Type 0 where
  pub limited : Bool
  pub stands : Kept
  pub journal_is : journal ≡ Some stands
  pub text : List ℕ
  pub answered : IsAnswered alone words left left' limited stands.entries text
  pub written : AppendsPrefix kept kept' text

-- the text of the problem was written whole, and nothing was searched
pub record WritesModel (alone : Bool) (words : List (String Global)) (journal : Option Kept)
    (left left' kept kept' : Option (List ℕ)) : Type 0 where
  pub no_journal : journal ≡ None
  pub text : List ℕ
  pub model : IsModelText alone words left left' text
  pub written : Appends kept kept' text

-- a prefix of it was written
pub record WritesModelPart (alone : Bool) (words : List (String Global)) (journal : Option Kept)
    (left left' kept kept' : Option (List ℕ)) : Type 0 where
  pub no_journal : journal ≡ None
  pub text : List ℕ
  pub model : IsModelText alone words left left' text
  pub written : AppendsPrefix kept kept' text

-- a prefix of the line was written, and the whole line unless the sink failed
pub record WritesLine (kept kept' : Option (List ℕ)) (faults faults' : ℕ) (line : List ℕ) : Type 0
  where
    pub part : AppendsPrefix kept kept' line
    pub whole : Appends kept kept' line ⊎ Rose faults faults'

-- why a file was not read, and the line that tells it
pub record TellsModel (left left' kept kept' : Option (List ℕ)) (faults faults' : ℕ) : Type 0 where
  pub line : List ℕ
  pub unreadable : IsUnreadable left left' line
  pub written : WritesLine kept kept' faults faults' line

-- why there is no answer
abbrev pub HasReason : Option (List ℕ) → Option (List ℕ) → ℕ → ℕ → Stop → Type 0
HasReason left left' faults faults' Words = ReadsWithin left left' faults faults' MOST_BYTES
HasReason left left' faults faults' TooLong = Takes left left' (MOST_BYTES + 1)
HasReason left left' faults faults' (Model line what) =
    ReadsWithin left left' faults faults' MOST_BYTES
    × IsRefused left left' (model_line (record { line = line; what = what }))
HasReason left left' faults faults' Read = Rose faults faults'
HasReason left left' faults faults' Memory = ReadsWithin left left' faults faults' MOST_BYTES

-- a run stops so before anything is read: the words are refused, or there is no memory
abbrev pub IsEarly : Stop → Type 0
IsEarly Words = Unit {0}
IsEarly TooLong = ⊥
IsEarly (Model line what) = ⊥
IsEarly Read = ⊥
IsEarly Memory = Unit {0}

-- the status of a run whose words can't be had
abbrev pub words_status : WordsFault → ℕ
words_status Refused = 2
words_status NoMemory = 6

-- what the outside tells: the bytes that the source has still to give and those that the sink
-- has taken, and how often each has failed
pub record Outside : Type 0 where
  pub left : Option (List ℕ)
  pub failed_reads : ℕ
  pub kept : Option (List ℕ)
  pub failed_writes : ℕ

abbrev pub outside : Option (List ℕ) → ℕ → Option (List ℕ) → ℕ → Outside
outside left failed_reads kept failed_writes = record {
  left = left;
  failed_reads = failed_reads;
  kept = kept;
  failed_writes = failed_writes;
}

-- no more was taken from the source than a model may have, and it didn't fail
abbrev pub ReadsModel : Outside → Outside → Type 0
ReadsModel old new = ReadsWithin old.left new.left old.failed_reads new.failed_reads MOST_BYTES

-- the answer of a search that was decided was written, or the text of the problem
abbrev pub WritesReply : Bool → List (String Global) → Ended → Outside → Outside → Type 0
WritesReply alone words ended old new =
    WritesAnswer alone words false ended.journal old.left new.left old.kept new.kept
    ⊎ WritesModel alone words ended.journal old.left new.left old.kept new.kept

-- a prefix of what is to be written was written
abbrev pub WritesReplyPart : Bool → List (String Global) → Ended → Outside → Outside → Type 0
WritesReplyPart alone words ended old new =
    WritesPart alone words ended.journal old.left new.left old.kept new.kept
    ⊎ WritesModelPart alone words ended.journal old.left new.left old.kept new.kept

-- What a run promises: each status has its cause, and what was written.
pub record HasRun (alone : Bool) (words : List (String Global)) (ended : Ended)
    (old new : Outside) : Type 0 where
  -- 0: the search has ended with no live node, the written bytes are its final answer, with
  -- `--log` behind its log, and nothing failed. Here and at 1 and 5 no node may be freed, and
  -- each seat has stored its nodes anew in time. With `--write` nothing is searched, and the
  -- written bytes are the text of the problem.
  pub decided : ended.status ≡ 0 → WritesReply alone words ended old new
  -- 1: the budget is spent and a live node waits; the written bytes are the bound and the best
  -- point found, with `--log` behind the log, and nothing failed.
  pub limited : ended.status ≡ 1
      → WritesAnswer alone words true ended.journal old.left new.left old.kept new.kept
  pub no_fault : ended.status ≤ 1 → new.failed_writes ≡ old.failed_writes
  -- But for 3 and 4 the source didn't fail, and no more was taken than may be read.
  pub within : ended.status ≢ 3 → ended.status ≢ 4 → ReadsModel old new
  -- 2: exactly where the words mean nothing, but for 6.
  pub meant : ended.status ≡ 2 → MeanNothing alone words
  pub refused : MeanNothing alone words → (ended.status ≡ 2) ⊎ (ended.status ≡ 6)
  -- 3: what was read is too long or has a fault, and the line tells it. At 0, 1 and 5 it means a
  -- problem, so 3 comes exactly there, but for 4 and 6.
  pub model : ended.status ≡ 3
      → TellsModel old.left new.left old.kept new.kept old.failed_writes new.failed_writes
  -- 4: the source failed.
  pub read : ended.status ≡ 4 → Rose old.failed_reads new.failed_reads
  -- Where a problem is to be made, 3 and 4 do not come.
  pub made : AskToMake alone words → (ended.status ≢ 3) × (ended.status ≢ 4)
  -- 5: the sink failed after the search had ended, and a prefix of the answer stands; with
  -- `--write`, of the problem's text.
  pub write : ended.status ≡ 5 → Rose old.failed_writes new.failed_writes
  pub part : ended.status ≡ 5 → WritesReplyPart alone words ended old new
  -- 2, 4 and 6, want of memory: a prefix of the fault's line stands, and all of it unless the
  -- sink failed.
  pub line : 1 < ended.status → ended.status ≢ 3 → ended.status ≢ 5
      → WritesLine old.kept new.kept old.failed_writes new.failed_writes (fault_line ended.status)
  pub no_journal : 1 < ended.status → ended.status ≢ 5 → ended.journal ≡ None
  pub others : ended.status ≤ 6

-- the words are accepted, and this is what they ask for and the problem that is given
pub record IsAsked (alone : Bool) (words : List (String Global)) (left left' : Option (List ℕ))
    (faults faults' : ℕ) (asked : Asked) : Type 0 where
  pub meant : AskFor alone words asked.wish
  pub accepted : MeanNothing alone words → ⊥
  pub given : IsGiven asked.wish.generate left left' asked.problem
  pub within : ReadsWithin left left' faults faults' MOST_BYTES

-- there is nothing to write, and this is the cause
pub record HasStopped (alone : Bool) (words : List (String Global)) (left left' : Option (List ℕ))
    (faults faults' : ℕ) (stop : Stop) : Type 0 where
  pub meant : stop ≡ Words → MeanNothing alone words
  pub refused : MeanNothing alone words → IsEarly stop
  pub made : AskToMake alone words → IsEarly stop
  pub cause : HasReason left left' faults faults' stop

-- the words are accepted, and this is to be written
pub record HasReply (alone : Bool) (words : List (String Global)) (left left' : Option (List ℕ))
    (faults faults' : ℕ) (reply : Reply) : Type 0 where
  pub text : IsReply alone words left left' reply
  pub accepted : MeanNothing alone words → ⊥
  pub within : ReadsWithin left left' faults faults' MOST_BYTES

-- what is to be written, or the cause for which there is nothing
abbrev pub IsReplied : Bool → List (String Global) → Option (List ℕ) → Option (List ℕ) → ℕ → ℕ
    → Result Reply Stop → Type 0
IsReplied alone words left left' faults faults' (Ok reply) =
    HasReply alone words left left' faults faults' reply
IsReplied alone words left left' faults faults' (Err stop) =
    HasStopped alone words left left' faults faults' stop

-- an end with this status and this line, and nothing was searched
pub record EndsWithLine (status : ℕ) (line : List ℕ) (ended : Ended) (kept kept' : Option (List ℕ))
    (faults faults' : ℕ) : Type 0 where
  pub status_is : ended.status ≡ status
  pub no_journal : ended.journal ≡ None
  pub written : WritesLine kept kept' faults faults' line

-- an end that tells why there is nothing to write; a file's fault, or want of memory for its line
abbrev pub EndsByStop : Stop → Ended → Option (List ℕ) → Option (List ℕ) → ℕ → ℕ → Type 0
EndsByStop Words ended kept kept' faults faults' =
    EndsWithLine 2 (fault_line 2) ended kept kept' faults faults'
EndsByStop TooLong ended kept kept' faults faults' =
    EndsWithLine 3 long_line ended kept kept' faults faults'
EndsByStop (Model line what) ended kept kept' faults faults' =
    EndsWithLine 3 (model_line (record { line = line; what = what })) ended kept kept' faults
    faults' ⊎ EndsWithLine 6 (fault_line 6) ended kept kept' faults faults'
EndsByStop Read ended kept kept' faults faults' =
    EndsWithLine 4 (fault_line 4) ended kept kept' faults faults'
EndsByStop Memory ended kept kept' faults faults' =
    EndsWithLine 6 (fault_line 6) ended kept kept' faults faults'

-- an end with the answer of a search: all of it, or a prefix where the sink failed
pub record EndsWithAnswer (answered : Answered) (ended : Ended) (kept kept' : Option (List ℕ))
    (faults faults' : ℕ) : Type 0 where
  pub journal : ended.journal ≡ Some answered.journal
  pub decided : ended.status ≡ 0 → answered.limited ≡ false
  pub limited : ended.status ≡ 1 → answered.limited ≡ true
  pub whole : ended.status ≤ 1 → Appends kept kept' answered.text.items
  pub no_fault : ended.status ≤ 1 → faults' ≡ faults
  pub part : ended.status ≡ 5 → AppendsPrefix kept kept' answered.text.items
  pub cause : ended.status ≡ 5 → Rose faults faults'
  pub others : (ended.status ≤ 1) ⊎ (ended.status ≡ 5)

-- an end with the text of a problem: all of it, or a prefix where the sink failed
pub record EndsWithModel (text : List ℕ) (ended : Ended) (kept kept' : Option (List ℕ))
    (faults faults' : ℕ) : Type 0 where
  pub no_journal : ended.journal ≡ None
  pub status : (ended.status ≡ 0) ⊎ (ended.status ≡ 5)
  pub whole : ended.status ≡ 0 → Appends kept kept' text
  pub no_fault : ended.status ≡ 0 → faults' ≡ faults
  pub part : ended.status ≡ 5 → AppendsPrefix kept kept' text
  pub cause : ended.status ≡ 5 → Rose faults faults'

-- an end with what is to be written
abbrev pub EndsByReply : Reply → Ended → Option (List ℕ) → Option (List ℕ) → ℕ → ℕ → Type 0
EndsByReply (Answer answered) = EndsWithAnswer answered
EndsByReply (ModelText text) = EndsWithModel text.items

-- an end with what is to be written, or that tells why there is nothing
abbrev pub EndsAs : Result Reply Stop → Ended → Option (List ℕ) → Option (List ℕ) → ℕ → ℕ → Type 0
EndsAs (Ok reply) = EndsByReply reply
EndsAs (Err stop) = EndsByStop stop
