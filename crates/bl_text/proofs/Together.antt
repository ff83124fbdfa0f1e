-- The cuts of texts that are put together.
use Rattle.std.proofs.Common.{◌≡◌, ◌≢◌, ℕ, ◌-◌, ◌<◌, Bool, true, false, cond, List, [], ◌∷◌, ◌++◌}
use Rattle.std.proofs.Common.{All, take, length, map, refl, ap, ◌∙◌, ◌==◌, arith}
use Rattle.std.specs.Prelude.{filter}
use Rattle.std.proofs.lemmas.Bool.{ne_eqb}
use Rattle.std.proofs.lemmas.List.{length_push, get_or_push, take-append-le, take_all}
use Rattle.std.proofs.lemmas.List.Elements.{All-head, All-tail, All-weaker}
use Rattle.bl_text.specs.Pieces.{is_line_feed, is_blank, is_word, before_pieces, pieces}
use Rattle.bl_text.specs.Pieces.{without_return, lines_of, words_of, HasNoLineFeed, HasNoBlank}
use Rattle.bl_text.proofs.Cuts.{first_by, pieces-nil}

-- a run as far as a byte that ends a piece
pub pieces-ended : (ends : ℕ → Bool) (run : List ℕ) (b : ℕ) (rest : List ℕ)
    → All (λ x. ends x ≡ false) run → ends b ≡ true → pieces ends (run ++ b ∷ rest) ≡ run
    ∷ pieces ends rest
pieces-ended ends [] b rest h e = first_by ends b rest true e
pieces-ended ends (x ∷ run) b rest h e =
    first_by ends x (run ++ b ∷ rest) false (All-head (λ x. ends x ≡ false) x run h)
    ∙ ap (before_pieces false x)
    (pieces-ended ends run b rest (All-tail (λ x. ends x ≡ false) x run h) e)

-- a run as far as the end
pub pieces-last : (ends : ℕ → Bool) (run : List ℕ) → 0 < length run
    → All (λ x. ends x ≡ false) run → pieces ends run ≡ run ∷ []
pieces-last ends [] l h = absurd (omega arith)
pieces-last ends (x ∷ []) l h = first_by ends x [] false (All-head (λ x. ends x ≡ false) x [] h)
    ∙ ap (before_pieces false x) (pieces-nil ends)
pieces-last ends (x ∷ y ∷ run) l h =
    first_by ends x (y ∷ run) false (All-head (λ x. ends x ≡ false) x (y ∷ run) h)
    ∙ ap (before_pieces false x) (pieces-last ends (y ∷ run) (omega arith)
    (All-tail (λ x. ends x ≡ false) x (y ∷ run) h))

not_feed : (line : List ℕ) → HasNoLineFeed line → All (λ b. is_line_feed b ≡ false) line
not_feed line h = All-weaker (λ b. b ≢ 10) (λ b. is_line_feed b ≡ false) (λ b n. ne_eqb b 10 n)
    line h

pub lines_of-ended : (line rest : List ℕ) → HasNoLineFeed line → lines_of (line ++ 10 ∷ rest)
    ≡ without_return line ∷ lines_of rest
lines_of-ended line rest h = ap (map without_return)
    (pieces-ended is_line_feed line 10 rest (not_feed line h) refl)

pub lines_of-last : (line : List ℕ) → 0 < length line → HasNoLineFeed line → lines_of line
    ≡ without_return line ∷ []
lines_of-last line l h = ap (map without_return) (pieces-last is_line_feed line l (not_feed line h))

pub words_of-blank : (b : ℕ) (rest : List ℕ) → is_blank b ≡ true → words_of (b ∷ rest)
    ≡ words_of rest
words_of-blank b rest e = ap (filter is_word) (first_by is_blank b rest true e)

pub words_of-ended : (word rest : List ℕ) (b : ℕ) → 0 < length word → HasNoBlank word → is_blank b
    ≡ true → words_of (word ++ b ∷ rest) ≡ word ∷ words_of rest
words_of-ended [] rest b l h e = absurd (omega arith)
words_of-ended (x ∷ word) rest b l h e =
    ap (filter is_word) (pieces-ended is_blank (x ∷ word) b rest h e)

pub words_of-last : (word : List ℕ) → 0 < length word → HasNoBlank word → words_of word ≡ word ∷ []
words_of-last [] l h = absurd (omega arith)
words_of-last (x ∷ word) l h = ap (filter is_word) (pieces-last is_blank (x ∷ word) l h)

-- without_return looks at the last byte
return_by : (line : List ℕ) (b : ℕ) (t : Bool) → (b == 13) ≡ t → without_return (line ++ b ∷ [])
    ≡ cond t line (line ++ b ∷ [])
return_by line b t e =
    let n : length (line ++ b ∷ []) - 1 ≡ length line = omega (arith, length_push line b) in
    let last = get_or_push line b 0 (length line) refl in
    let front : take (length line) (line ++ b ∷ []) ≡ line =
    take-append-le (length line) line (b ∷ []) (omega arith)
    ∙ take_all (length line) line (omega arith) in
    rw (n, last, e, front) refl

pub without_return-drops : (line : List ℕ) → without_return (line ++ 13 ∷ []) ≡ line
without_return-drops line = return_by line 13 true refl

pub without_return-keeps : (line : List ℕ) (b : ℕ) → b ≢ 13 → without_return (line ++ b ∷ [])
    ≡ line ++ b ∷ []
without_return-keeps line b n = return_by line b false (ne_eqb b 13 n)
