-- Words that are laid out in a line.
use Rattle.std.specs.Prelude.{ℕ, List, [], ◌∷◌, ◌++◌, length}
use Rattle.std.specs.Fmt.{decimal}

abbrev pub Text : Type 0
Text = List ℕ

-- words, with one space before each
abbrev pub spaced : List Text → Text
spaced [] = []
spaced (word ∷ words) = 32 ∷ (word ++ spaced words)

-- words that are parted by one space
abbrev pub joined : List Text → Text
joined [] = []
joined (word ∷ words) = word ++ spaced words

-- the words of each, in order
abbrev pub each : {X : Type 0} → (X → List Text) → List X → List Text
each words [] = []
each words (x ∷ xs) = words x ++ each words xs

-- how many there are, and the words of each
abbrev pub listed : {X : Type 0} → (X → List Text) → List X → List Text
listed words xs = decimal (length xs) ∷ each words xs
