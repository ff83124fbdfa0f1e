-- The words of a laid out line.
use Rattle.std.proofs.Common.{◌≡◌, ◌<◌, ◌≤◌, ◌∙◌, ℕ, Bool, true, false, List, [], ◌∷◌, ◌++◌}
use Rattle.std.proofs.Common.{length, ap, sym, refl, arith, append-nil, cond, ltb, true≢false}
use Rattle.std.specs.Prelude.{All, filter}
use Rattle.std.proofs.lemmas.List.Elements.{All-append, All-cons, All-head, All-nil, All-tail}
use Rattle.std.proofs.lemmas.List.Elements.{All-weaker}
use Rattle.std.proofs.lemmas.Bool.Decides.{nat_tests}
use Rattle.std.proofs.lemmas.Bool.{ltb-true}
use Rattle.bl_text.specs.Pieces.{HasNoBlank, is_blank, is_word, words_of}
use Rattle.bl_text.proofs.Cuts.{pieces-nil}
use Rattle.bl_text.proofs.Together.{words_of-ended, words_of-last}
use Rattle.bl_log.specs.Spaced.{Text, joined, spaced}

abbrev pub IsSeen : ℕ → Type 0
IsSeen b = 32 < b

-- a word of bytes that are not blank
pub record IsPlain (word : Text) : Type 0 where
  pub some : 0 < length word
  pub seen : All IsSeen word

abbrev IsNotBlank : ℕ → Type 0
IsNotBlank b = is_blank b ≡ false

seen_not_blank : (b : ℕ) → 32 < b → is_blank b ≡ false
seen_not_blank b above = grind (arith, nat_tests)

plain_whole : (word : Text) → IsPlain word → HasNoBlank word
plain_whole word w = All-weaker IsSeen IsNotBlank seen_not_blank word w.seen

no_words : words_of [] ≡ []
no_words = ap (filter is_word) (pieces-nil is_blank)

-- a line has the words that it was put together from
pub words_joined : (w : Text) (ws : List Text) → All IsPlain (w ∷ ws) → words_of (w ++ spaced ws)
    ≡ w ∷ ws
words_joined w [] h =
    let p = All-head IsPlain w [] h in
    ap words_of (append-nil w) ∙ words_of-last w p.some (plain_whole w p)
words_joined w (v ∷ vs) h =
    let p = All-head IsPlain w (v ∷ vs) h in
    words_of-ended w (v ++ spaced vs) 32 p.some (plain_whole w p) refl
    ∙ ap (λ (l : List Text). w ∷ l) (words_joined v vs (All-tail IsPlain w (v ∷ vs) h))

-- no byte of a line is below the space
abbrev pub IsPrinted : ℕ → Type 0
IsPrinted b = 32 ≤ b

plain_printed : (word : Text) → IsPlain word → All IsPrinted word
plain_printed word w = All-weaker IsSeen IsPrinted (λ b above. omega (arith, above)) word w.seen

spaced_printed : (ws : List Text) → All IsPlain ws → All IsPrinted (spaced ws)
spaced_printed [] h = All-nil IsPrinted
spaced_printed (w ∷ ws) h =
    All-cons IsPrinted 32 (w ++ spaced ws) (omega arith)
    (All-append IsPrinted w (spaced ws) (plain_printed w (All-head IsPlain w ws h))
    (spaced_printed ws (All-tail IsPlain w ws h)))

pub joined_printed : (ws : List Text) → All IsPlain ws → All IsPrinted (joined ws)
joined_printed [] h = All-nil IsPrinted
joined_printed (w ∷ ws) h = All-append IsPrinted w (spaced ws)
    (plain_printed w (All-head IsPlain w ws h)) (spaced_printed ws (All-tail IsPlain w ws h))

-- whether a word that is written out has no blank
abbrev pub all_seen : Text → Bool
all_seen [] = true
all_seen (b ∷ bs) = cond (ltb 32 b) (all_seen bs) false

written : (word : Text) → all_seen word ≡ true → All IsSeen word
written [] e = All-nil IsSeen
written (b ∷ bs) e = go (ltb 32 b) refl e (written bs)
  where
    go : (t : Bool) → ltb 32 b ≡ t → cond t (all_seen bs) false ≡ true
        → (all_seen bs ≡ true → All IsSeen bs) → All IsSeen (b ∷ bs)
    go true one e' later = All-cons IsSeen b bs (ltb-true 32 b one) (later e')
    go false one e' later = absurd (true≢false (sym e'))

pub literal : (word : Text) → 0 < length word → all_seen word ≡ true → IsPlain word
literal word some e = record { some = some; seen = written word e }
