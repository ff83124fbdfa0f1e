-- What the lines of OBJSENSE ask for: the least or the greatest value.
use Rattle.std.specs.Prelude.{◌≡◌, ℕ, ◌+◌, Bool, true, false, ◌==◌, if◌then◌else◌, List, [], ◌∷◌}
use Rattle.std.specs.Prelude.{◌++◌, length, Option, Some, None, codes}
use Rattle.bl_problem.specs.declared.problem.Sense.{Sense}
use Rattle.bl_cards.specs.declared.kind.Section.{Section}
use Rattle.bl_cards.specs.declared.kind.Section.TheVariants.{Start, Objsense}
use Rattle.bl_cards.specs.Said.{same, Said}
use Rattle.bl_cards.specs.Lines.{rank, sense_of}
use Rattle.bl_cards.specs.Reading.{is_end}
use Rattle.bl_cards.specs.Sections.{is_data, words_said, section_behind}

-- the word behind the section's name on an OBJSENSE line
abbrev pub second_on : List (List ℕ) → List (List ℕ)
second_on [] = []
second_on (name ∷ []) = []
second_on (name ∷ word ∷ words) = if same name (codes "OBJSENSE") then word ∷ [] else []

-- the words that a line gives to OBJSENSE: that one, and those of its data lines
abbrev pub sense_words_on : Section → Bool → List (List ℕ) → List (List ℕ)
sense_words_on now false words = second_on words
sense_words_on now true words = if rank now == rank Objsense then words else []

-- those up to the ENDATA line
abbrev pub sense_words : Section → List (List ℕ) → List (List ℕ)
sense_words now [] = []
sense_words now (line ∷ lines) =
    if is_end now then []
    else sense_words_on now (is_data line) (words_said line)
    ++ sense_words (section_behind now (is_data line) (words_said line)) lines

abbrev pub opening_on : Bool → List (List ℕ) → ℕ
opening_on true words = 0
opening_on false [] = 0
opening_on false (name ∷ words) = if same name (codes "OBJSENSE") then 1 else 0

-- how many OBJSENSE lines there are up to the ENDATA line
abbrev pub openings : Section → List (List ℕ) → ℕ
openings now [] = 0
openings now (line ∷ lines) =
    if is_end now then 0
    else opening_on (is_data line) (words_said line)
    + openings (section_behind now (is_data line) (words_said line)) lines

-- no word asks for nothing, and one word for the sense that it names
abbrev pub AsksFor : List (List ℕ) → Option Sense → Type 0
AsksFor [] None = Unit {0}
AsksFor [] (Some sense) = ⊥
AsksFor (word ∷ []) None = ⊥
AsksFor (word ∷ []) (Some sense) = sense_of word ≡ Some sense
AsksFor (word ∷ more ∷ words) said = ⊥

pub record IsAskedByLines (lines : List (List ℕ)) (s : Said) : Type 0 where
  -- the sense is named by the one word of OBJSENSE, and is missing where there is none
  pub word : AsksFor (sense_words Start lines) s.sense
  -- an OBJSENSE line has its word, on itself or on a data line
  pub given : length (sense_words Start lines) ≡ openings Start lines
