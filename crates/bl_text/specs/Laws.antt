-- What the cuts come to, for texts that are put together: these equations give the lines of
-- every text and the words of every line.
use Rattle.std.specs.Prelude.{◌≡◌, ◌≢◌, ℕ, ◌<◌, length, true, List, [], ◌∷◌, ◌++◌}
use Rattle.bl_text.specs.Pieces.{is_blank, without_return, lines_of, words_of, HasNoLineFeed}
use Rattle.bl_text.specs.Pieces.{HasNoBlank}

-- a line with a line feed behind it comes before the lines of the rest
abbrev pub CutsAtLineFeed : Type 0
CutsAtLineFeed = (line rest : List ℕ) → HasNoLineFeed line → lines_of (line ++ 10 ∷ rest)
    ≡ without_return line ∷ lines_of rest

-- a last line without a line feed is a line, if it has a byte
abbrev pub KeepsLastLine : Type 0
KeepsLastLine = (line : List ℕ) → 0 < length line → HasNoLineFeed line → lines_of line
    ≡ without_return line ∷ []

-- of a carriage return at the end of a line one is dropped
abbrev pub DropsReturn : Type 0
DropsReturn = (line : List ℕ) → without_return (line ++ 13 ∷ []) ≡ line

-- and every other line stays as it is
abbrev pub KeepsOtherEnd : Type 0
KeepsOtherEnd = (line : List ℕ) (b : ℕ) → b ≢ 13 → without_return (line ++ b ∷ []) ≡ line ++ b ∷ []

-- a blank in front is passed over
abbrev pub PassesBlank : Type 0
PassesBlank = (b : ℕ) (rest : List ℕ) → is_blank b ≡ true → words_of (b ∷ rest) ≡ words_of rest

-- a run without blanks is a word, as far as the next blank
abbrev pub CutsAtBlank : Type 0
CutsAtBlank = (word rest : List ℕ) (b : ℕ) → 0 < length word → HasNoBlank word → is_blank b ≡ true
    → words_of (word ++ b ∷ rest) ≡ word ∷ words_of rest

-- or as far as the end
abbrev pub KeepsLastWord : Type 0
KeepsLastWord = (word : List ℕ) → 0 < length word → HasNoBlank word → words_of word ≡ word ∷ []
