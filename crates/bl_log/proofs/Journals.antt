-- The text of a journal tells its entries.
use Rattle.std.proofs.Common.{◌≡◌, ◌≢◌, ◌∙◌, ◌+◌, ℕ, suc, false, List, length, [], ◌∷◌, ◌++◌, ap}
use Rattle.std.proofs.Common.{ap₂, sym, refl, arith, append_assoc, ne_eqb}
use Rattle.std.specs.Prelude.{All}
use Rattle.std.proofs.lemmas.List.Elements.{All-head, All-tail, All-weaker}
use Rattle.bl_text.specs.Pieces.{is_line_feed, pieces, words_of}
use Rattle.bl_text.proofs.Together.{pieces-ended}
use Rattle.bl_journal.specs.declared.entry.Entry.{Entry}
use Rattle.bl_log.specs.Spaced.{Text}
use Rattle.bl_log.specs.Log.{line_of, text_of}
use Rattle.bl_log.specs.Fits.{Fits}
use Rattle.bl_log.specs.Laws.{IsFirstBad, SpellsNone}
use Rattle.bl_log.proofs.Words.{IsPrinted}
use Rattle.bl_log.proofs.Entries.{line_printed, line_words, words_one}

pub line_one : (a b : Entry) → Fits a → Fits b → line_of a ≡ line_of b → a ≡ b
line_one a b f g same = words_one a b f g (sym (line_words a f) ∙ ap words_of same ∙ line_words b g)

no_feed : (line : Text) → All IsPrinted line → All (λ b. is_line_feed b ≡ false) line
no_feed line h = All-weaker IsPrinted (λ b. is_line_feed b ≡ false)
    (λ b above. ne_eqb b 10 (λ e. omega (arith, above, e))) line h

cut_first : (e : Entry) (rest : Text) → Fits e → pieces is_line_feed (line_of e ++ 10 ∷ rest)
    ≡ line_of e ∷ pieces is_line_feed rest
cut_first e rest f = pieces-ended is_line_feed (line_of e) 10 rest
    (no_feed (line_of e) (line_printed e f)) refl

head_same : {X : Type 0} (x y : X) (xs ys : List X) → x ∷ xs ≡ y ∷ ys → x ≡ y
head_same x y xs ys e = cc

-- texts that begin alike go on alike
after_same : (line : Text) (xs ys : Text) → line ++ 10 ∷ xs ≡ line ++ 10 ∷ ys → xs ≡ ys
after_same [] xs ys e = cc
after_same (b ∷ line) xs ys e = after_same line xs ys (cc)

pub first_same : (a b : Entry) (xs ys : Text) → Fits a → Fits b → line_of a ++ 10 ∷ xs ≡ line_of b
    ++ 10 ∷ ys → (a ≡ b) × (xs ≡ ys)
first_same a b xs ys f g same =
    let lines : line_of a ≡ line_of b =
    head_same _ _ _ _ (sym (cut_first a xs f) ∙ ap (pieces is_line_feed) same
    ∙ cut_first b ys g) in (
      line_one a b f g lines,
      after_same (line_of b) xs ys
          (ap (λ (l : Text). l ++ 10 ∷ xs) (sym lines) ∙ same),
    )

longer : (line xs : Text) → [] ≡ line ++ 10 ∷ xs → ⊥
longer [] xs e = cc
longer (b ∷ line) xs e = cc

pub text_determines : (a b : List Entry) → All Fits a → All Fits b → text_of a ≡ text_of b → a ≡ b
text_determines [] [] f g same = refl
text_determines [] (b ∷ bs) f g same = absurd (longer (line_of b) (text_of bs) same)
text_determines (a ∷ more) [] f g same = absurd (longer (line_of a) (text_of more) (sym same))
text_determines (a ∷ more) (b ∷ bs) f g same =
    let parts = first_same a b (text_of more) (text_of bs) (All-head Fits a more f)
    (All-head Fits b bs g) same in
    ap₂ (λ (x : Entry) (xs : List Entry). x ∷ xs) parts.0
    (text_determines more bs (All-tail Fits a more f) (All-tail Fits b bs g) parts.1)

no_bad : (j before : List Entry) (rest : Text) → All Fits j → All Fits before → text_of j
    ≡ text_of before ++ rest → rest ≢ [] → SpellsNone rest → ⊥
no_bad [] [] rest f g cut some bad = some (sym cut)
no_bad (e ∷ es) [] rest f g cut some bad = bad e (text_of es) (All-head Fits e es f) (sym cut)
no_bad [] (b ∷ bs) rest f g cut some bad =
    longer (line_of b) (text_of bs ++ rest) (cut ∙ append_assoc (line_of b) (10 ∷ text_of bs) rest)
no_bad (e ∷ es) (b ∷ bs) rest f g cut some bad =
    let parts = first_same e b (text_of es) (text_of bs ++ rest) (All-head Fits e es f)
    (All-head Fits b bs g) (cut ∙ append_assoc (line_of b) (10 ∷ text_of bs) rest) in
    no_bad es bs rest (All-tail Fits e es f) (All-tail Fits b bs g) parts.1 some bad

pub no_bad_line : (j : List Entry) (n : ℕ) → All Fits j → IsFirstBad (text_of j) n → ⊥
no_bad_line j n f h = no_bad j h.before h.rest f h.fits h.cut h.some h.none

same_count : (bs cs : List Entry) (r s : Text) → All Fits bs → All Fits cs → text_of bs ++ r
    ≡ text_of cs ++ s → SpellsNone r → SpellsNone s → length bs ≡ length cs
same_count [] [] r s f g same bad worse = refl
same_count [] (c ∷ cs) r s f g same bad worse =
    absurd (bad c (text_of cs ++ s) (All-head Fits c cs g)
    (same ∙ append_assoc (line_of c) (10 ∷ text_of cs) s))
same_count (b ∷ bs) [] r s f g same bad worse =
    absurd (worse b (text_of bs ++ r) (All-head Fits b bs f)
    (sym same ∙ append_assoc (line_of b) (10 ∷ text_of bs) r))
same_count (b ∷ bs) (c ∷ cs) r s f g same bad worse =
    let parts = first_same b c (text_of bs ++ r) (text_of cs ++ s) (All-head Fits b bs f)
    (All-head Fits c cs g)
    (sym (append_assoc (line_of b) (10 ∷ text_of bs) r) ∙ same
    ∙ append_assoc (line_of c) (10 ∷ text_of cs) s) in
    ap suc (same_count bs cs r s (All-tail Fits b bs f) (All-tail Fits c cs g) parts.1 bad worse)

pub first_bad_is_one : (bytes : Text) (m n : ℕ) → IsFirstBad bytes m → IsFirstBad bytes n → m ≡ n
first_bad_is_one bytes m n h k =
    h.line ∙ ap (λ (i : ℕ). i + 1) (same_count h.before k.before h.rest k.rest h.fits k.fits
    (sym h.cut ∙ k.cut) h.none k.none) ∙ sym k.line
