-- How fields are laid out in lines, and lines in a text.
use Rattle.std.specs.Prelude.{ℕ, ◌+◌, ◌-◌, max, List, [], ◌∷◌, ◌++◌, length, replicate}

abbrev pub Text : Type 0
Text = List ℕ

-- the words of a line, one after another, each with how many blanks stand before it
abbrev pub spaced : List (ℕ × Text) → Text
spaced [] = []
spaced (f ∷ fs) = replicate f.0 32 ++ (f.1 ++ spaced fs)

-- behind so many bytes a field begins at its column, or one blank later than they end, where
-- that is later
abbrev pub gap : ℕ → ℕ → ℕ
gap place column = max 1 (column - 1 - place)

-- fields behind so many bytes of a line: words, each with the column at which it is to begin,
-- counted from 1
abbrev pub fields_from : ℕ → List (ℕ × Text) → List (ℕ × Text)
fields_from place [] = []
fields_from place (f ∷ fs) = (gap place f.0, f.1)
    ∷ fields_from (place + gap place f.0 + length f.1) fs

-- a line of fields
abbrev pub laid : (ℕ × Text) → List (ℕ × Text) → Text
laid f fs = spaced ((f.0 - 1, f.1) ∷ fields_from (f.0 - 1 + length f.1) fs)

-- lines, each with its line feed
abbrev pub ended : List Text → Text
ended [] = []
ended (line ∷ lines) = line ++ 10 ∷ ended lines
