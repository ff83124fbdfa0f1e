-- What the bytes of a text are, those of its lines and words are; and which bytes no line and no
-- word has.
use Rattle.std.proofs.Common.{◌≡◌, ◌≢◌, ℕ, ◌-◌, ◌<◌, Bool, true, false, cond, List, [], ◌∷◌, All}
use Rattle.std.proofs.Common.{take, length, refl, slice_index_or, ◌==◌, arith}
use Rattle.std.proofs.lemmas.Bool.{eqb-false}
use Rattle.std.proofs.lemmas.List.Elements.{All-nil, All-cons, All-head, All-tail, All-take}
use Rattle.std.proofs.lemmas.List.Elements.{All-map, All-weaker, All-filter, filter_passes}
use Rattle.bl_text.specs.Pieces.{is_line_feed, is_blank, is_word, before_pieces, pieces}
use Rattle.bl_text.specs.Pieces.{without_return, lines_of, words_of, HasNoLineFeed, HasNoBlank}

before-all : (P : ℕ → Type 0) (t : Bool) (b : ℕ) (ps : List (List ℕ)) → (t ≡ false → P b)
    → All (All P) ps → All (All P) (before_pieces t b ps)
before-all P true b ps h k = All-cons (All P) [] ps (All-nil P) k
before-all P false b [] h k = All-cons (All P) (b ∷ []) [] (All-cons P b [] (h refl) (All-nil P))
    (All-nil (All P))
before-all P false b (p ∷ ps) h k = All-cons (All P) (b ∷ p) ps
    (All-cons P b p (h refl) (All-head (All P) p ps k)) (All-tail (All P) p ps k)

-- what holds of each byte that ends no piece holds of each byte of the pieces
pub pieces-all : (P : ℕ → Type 0) (ends : ℕ → Bool) (bs : List ℕ)
    → All (λ b. ends b ≡ false → P b) bs → All (All P) (pieces ends bs)
unfolding pieces
pieces-all P ends [] h = All-nil (All P)
pieces-all P ends (b ∷ bs) h = before-all P (ends b) b (pieces ends bs)
    (All-head (λ x. ends x ≡ false → P x) b bs h)
    (pieces-all P ends bs (All-tail (λ x. ends x ≡ false → P x) b bs h))

without_return-all : (P : ℕ → Type 0) (piece : List ℕ) → All P piece → All P (without_return piece)
without_return-all P piece h = by (slice_index_or piece (length piece - 1) 0 == 13) where
  by : (t : Bool) → All P (cond t (take (length piece - 1) piece) piece)
  by true = All-take P (length piece - 1) piece h
  by false = h

-- what holds of each byte of a text but its line feeds holds of each byte of its lines
pub lines_of-all : (P : ℕ → Type 0) (bytes : List ℕ) → All (λ b. b ≢ 10 → P b) bytes
    → All (All P) (lines_of bytes)
lines_of-all P bytes h =
    All-map (All P) without_return (pieces is_line_feed bytes)
    (All-weaker (All P) (λ p. All P (without_return p)) (λ p. without_return-all P p)
    (pieces is_line_feed bytes)
    (pieces-all P is_line_feed bytes (All-weaker (λ b. b ≢ 10 → P b)
    (λ b. is_line_feed b ≡ false → P b) (λ b f e. f (eqb-false b 10 e)) bytes h)))

-- no line has a line feed
pub lines_of-no_line_feed : (bytes : List ℕ) → All HasNoLineFeed (lines_of bytes)
lines_of-no_line_feed bytes = lines_of-all (λ b. b ≢ 10) bytes (λ k d l n. n)

-- what holds of each byte of a line but its blanks holds of each byte of its words
pub words_of-all : (P : ℕ → Type 0) (line : List ℕ) → All (λ b. is_blank b ≡ false → P b) line
    → All (All P) (words_of line)
words_of-all P line h = All-filter is_word (All P) (pieces is_blank line)
    (pieces-all P is_blank line h)

-- no word has a blank
pub words_of-no_blank : (line : List ℕ) → All HasNoBlank (words_of line)
words_of-no_blank line = words_of-all (λ b. is_blank b ≡ false) line (λ k d l n. n)

word-length : (word : List ℕ) → is_word word ≡ true → 0 < length word
word-length [] e = absurd cc
word-length (b ∷ bs) e = omega arith

-- each word has a byte
pub words_of-length : (line : List ℕ) → All (λ word. 0 < length word) (words_of line)
words_of-length line = All-weaker (λ word. is_word word ≡ true) (λ word. 0 < length word)
    word-length (words_of line) (filter_passes is_word (pieces is_blank line))

-- a word of a line without line feeds has none
pub words_of-no_line_feed : (line : List ℕ) → HasNoLineFeed line → All HasNoLineFeed (words_of line)
words_of-no_line_feed line h = words_of-all (λ b. b ≢ 10) line
    (All-weaker (λ b. b ≢ 10) (λ b. is_blank b ≡ false → b ≢ 10) (λ b n e. n) line h)
