-- How bytes are cut into lines, and a line into words.
use Rattle.std.specs.Prelude.{◌≡◌, ◌≢◌, All, Option, Some, None, ℕ, ◌+◌, ◌-◌, length, take}
use Rattle.std.specs.Prelude.{slice_index_or, Bool, true, false, ◌||◌, ◌==◌, List, [], ◌∷◌, map}
use Rattle.std.specs.Prelude.{filter, if◌then◌else◌}

abbrev pub is_line_feed : ℕ → Bool
is_line_feed b = b == 10

-- a space, a tab or a carriage return
abbrev pub is_blank : ℕ → Bool
is_blank b = b == 32 || b == 9 || b == 13

-- a byte in front of the pieces after it: it ends a piece, or it begins the first of them
abbrev pub before_pieces : Bool → ℕ → List (List ℕ) → List (List ℕ)
before_pieces true b ps = [] ∷ ps
before_pieces false b [] = (b ∷ []) ∷ []
before_pieces false b (p ∷ ps) = (b ∷ p) ∷ ps

-- the pieces between the bytes that end one; an empty piece after the last of these is none
unfoldable pub pieces : (ℕ → Bool) → List ℕ → List (List ℕ)
pieces ends [] = []
pieces ends (b ∷ bs) = before_pieces (ends b) b (pieces ends bs)

-- one carriage return at the end is dropped
abbrev pub without_return : List ℕ → List ℕ
without_return piece = if slice_index_or piece (length piece - 1) 0 == 13
    then take (length piece - 1) piece else piece

abbrev pub is_word : List ℕ → Bool
is_word [] = false
is_word (b ∷ bs) = true

-- the lines of a text
abbrev pub lines_of : List ℕ → List (List ℕ)
lines_of bytes = map without_return (pieces is_line_feed bytes)

-- the longest runs of bytes that are not blanks
abbrev pub words_of : List ℕ → List (List ℕ)
words_of line = filter is_word (pieces is_blank line)

abbrev pub HasNoLineFeed : List ℕ → Type 0
HasNoLineFeed bytes = All (λ b. b ≢ 10) bytes

abbrev pub HasNoBlank : List ℕ → Type 0
HasNoBlank bytes = All (λ b. is_blank b ≡ false) bytes

-- how many bytes in front pass a test
abbrev pub leading : (ℕ → Bool) → List ℕ → ℕ
leading test [] = 0
leading test (b ∷ bs) = if test b then leading test bs + 1 else 0

-- the lines that are left of a text, and the number of the first of them
pub record Left : Type 0 where
  pub number : ℕ
  pub lines : List (List ℕ)

-- the first of the lines that were left, or nothing where none was
abbrev pub TakesLine : Left → Option (ℕ × List ℕ) → Left → Type 0
TakesLine old None new = (old.lines ≡ []) × (new.lines ≡ [])
TakesLine old (Some line) new = (line.0 ≡ old.number) × (new.number ≡ old.number + 1)
    × (old.lines ≡ line.1 ∷ new.lines)
