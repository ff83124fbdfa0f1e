-- Lines that are read.
use Rattle.std.proofs.Common.{inl, inr, ◌≡◌, ◌≢◌, ◌≤◌, ◌+◌, ◌-◌, ◌∙◌, ℕ, Bool, true, false, cond}
use Rattle.std.proofs.Common.{ne_eqb, nat_eq, Option, Some, None, Ok, Err, List, [], ◌∷◌, ◌++◌}
use Rattle.std.proofs.Common.{length, get_or, take, drop, ap, sym, subst, refl, arith}
use Rattle.std.proofs.Common.{append_assoc, true≢false}
use Rattle.std.specs.Prelude.{◌⊎◌, All, MatchOption, MatchResult, IfOk, Result, IsErr, IsErrAnd}
use Rattle.std.specs.Cmp.Lexicographic.{other_text, pointwise, same_text}
use Rattle.std.proofs.lemmas.List.{length-append, take-append-drop}
use Rattle.std.proofs.Math.Seq.{take-append_seam}
use Rattle.std.proofs.lemmas.List.Elements.{All-weaker}
use Rattle.bl_text.specs.Pieces.{HasNoLineFeed, lines_of, without_return}
use Rattle.bl_text.proofs.Together.{lines_of-ended}
use Rattle.bl_journal.specs.declared.entry.Entry.{Entry}
use Rattle.bl_log.specs.declared.fault.LogFault.{LogFault}
use Rattle.bl_log.specs.declared.fault.LogFault.TheVariants.{Line, Memory as NoMemory}
use Rattle.bl_log.specs.declared.fault.Miss.{Miss}
use Rattle.bl_log.specs.declared.fault.Miss.TheVariants.{Memory, Words}
use Rattle.bl_log.specs.Spaced.{Text}
use Rattle.bl_log.specs.Log.{line_of, text_of}
use Rattle.bl_log.specs.Fits.{Fits}
use Rattle.bl_log.specs.Laws.{IsFirstBad}
use Rattle.bl_log.proofs.Words.{IsPrinted}
use Rattle.bl_log.proofs.Entries.{line_printed}
use Rattle.bl_log.proofs.Journals.{first_bad_is_one, no_bad_line, text_determines}
use Rattle.bl_log.proofs.Laid.{text_push}

last_byte : (piece : Text) → All IsPrinted piece → get_or piece (length piece - 1) 0 ≢ 13
last_byte [] h e = omega (arith, e)
last_byte (b ∷ bs) h e = omega (arith, e, h (length (b ∷ bs) - 1) 0 (omega arith))

kept : (piece : Text) → All IsPrinted piece → without_return piece ≡ piece
kept piece h = ap (λ (t : Bool). cond t (take (length piece - 1) piece) piece)
    (ne_eqb (get_or piece (length piece - 1) 0) 13 (last_byte piece h))

no_feed : (line : Text) → All IsPrinted line → HasNoLineFeed line
no_feed line h = All-weaker IsPrinted (λ b. b ≢ 10) (λ b above e. omega (arith, above, e)) line h

-- the first line of a text that begins with the line of an entry
pub first_line : (e : Entry) (rest tail : Text) → Fits e → rest ≡ line_of e ++ 10 ∷ tail
    → lines_of rest ≡ line_of e ∷ lines_of tail
first_line e rest tail f is =
    ap lines_of is ∙ lines_of-ended (line_of e) tail (no_feed (line_of e) (line_printed e f))
    ∙ ap (λ (l : Text). l ∷ lines_of tail) (kept (line_of e) (line_printed e f))

pub head_is : {X : Type 0} (x y : X) (xs ys : List X) → x ∷ xs ≡ y ∷ ys → x ≡ y
head_is x y xs ys e = cc

pub not_none : {X : Type 0} (x : X) (xs ys : List X) → ys ≡ [] → ys ≡ x ∷ xs → ⊥
not_none x xs ys e f = cc

words_not_memory : Words ≡ Memory → ⊥
words_not_memory e = cc

pub not_words : {X : Type 0} (r : Result X Miss) (e : Miss) → IsErr r × IsErrAnd r (λ x. x ≡ e)
    → r ≡ Err Words → e ≡ Memory → ⊥
not_words (Ok y) e h same m = true≢false (sym h.0)
not_words (Err y) e h same m = let z : y ≡ Words = cc in words_not_memory (sym z ∙ h.1 ∙ m)

pub cut_line : {X : Type 0} (now : X → Text) (rest line bytes : Text) (r : Option X) → bytes
    ≡ line ++ 10 ∷ []
    → MatchOption r (pointwise nat_eq (take (length bytes) rest) bytes ≡ false)
    (λ x. (pointwise nat_eq (take (length bytes) rest) bytes ≡ true)
    × (now x ≡ drop (length bytes) rest) × (length (now x) + length bytes ≡ length rest))
    → MatchOption r ((tail : Text) → rest ≢ line ++ 10 ∷ tail) (λ x. rest ≡ line ++ 10 ∷ now x)
cut_line now rest line bytes None is h = λ tail e.
    let whole : rest ≡ bytes ++ tail = e ∙ sym (append_assoc line (10 ∷ []) tail)
    ∙ ap (λ (l : Text). l ++ tail) (sym is) in
    other_text (take (length bytes) rest) bytes (sym h)
    (ap (take (length bytes)) whole ∙ take-append_seam bytes tail)
cut_line now rest line bytes (Some x) is h =
    let front : take (length bytes) rest ≡ bytes =
    same_text (take (length bytes) rest) bytes (sym h.0) in
    sym (take-append-drop (length bytes) rest) ∙ ap (λ (l : Text). l ++ drop (length bytes) rest)
    (front ∙ is) ∙ ap (λ (l : Text). (line ++ 10 ∷ []) ++ l) (sym h.1)
    ∙ append_assoc line (10 ∷ []) (now x)

-- one line more is read
pub line_read : (es : List Entry) (e : Entry) (bytes rest tail : Text) → bytes ≡ text_of es
    ++ rest → rest ≡ line_of e ++ 10 ∷ tail → bytes ≡ text_of (es ++ e ∷ []) ++ tail
line_read es e bytes rest tail is first =
    is ∙ ap (λ (t : Text). text_of es ++ t) (first
    ∙ sym (append_assoc (line_of e) (10 ∷ []) tail))
    ∙ sym (append_assoc (text_of es) (line_of e ++ 10 ∷ []) tail)
    ∙ ap (λ (t : Text). t ++ tail) (sym (text_push es e))

pub line_length : (line rest tail : Text) → rest ≡ line ++ 10 ∷ tail → length tail + 1 ≤ length rest
line_length line rest tail is = omega (arith, ap length is, length-append line (10 ∷ tail))

-- a reader that gives the journal of a text, or tells its first bad line, gives back each journal
pub gives_back : {J : Type 0} (entries_of : J → List Entry) (bytes : Text) (r : Result J LogFault)
    → IfOk r (λ j. bytes ≡ text_of (entries_of j)) → IfOk r (λ j. All Fits (entries_of j))
    → ((n : ℕ) → r ≡ Err (Line n) → IsFirstBad bytes n) → (es : List Entry) → All Fits es → bytes
    ≡ text_of es → MatchResult r (λ j. entries_of j ≡ es) (λ e. e ≡ NoMemory)
gives_back entries_of bytes (Ok j) text fits line es f is =
    text_determines (entries_of j) es fits f (sym text ∙ is)
gives_back entries_of bytes (Err (Line n)) text fits line es f is =
    absurd (no_bad_line es n f (subst (λ (t : Text). IsFirstBad t n) is (line n refl)))
gives_back entries_of bytes (Err NoMemory) text fits line es f is = refl

-- and it tells the first bad line of every other text
pub tells_bad : {J : Type 0} (entries_of : J → List Entry) (bytes : Text) (r : Result J LogFault)
    → IfOk r (λ j. bytes ≡ text_of (entries_of j)) → IfOk r (λ j. All Fits (entries_of j))
    → ((n : ℕ) → r ≡ Err (Line n) → IsFirstBad bytes n) → (n : ℕ) → IsFirstBad bytes n
    → MatchResult r (λ _. ⊥) (λ e. (e ≡ Line n) ⊎ (e ≡ NoMemory))
tells_bad entries_of bytes (Ok j) text fits line n h =
    no_bad_line (entries_of j) n fits (subst (λ (t : Text). IsFirstBad t n) text h)
tells_bad entries_of bytes (Err (Line m)) text fits line n h =
    inl (ap Line (first_bad_is_one bytes m n (line m refl) h))
tells_bad entries_of bytes (Err NoMemory) text fits line n h = inr refl
