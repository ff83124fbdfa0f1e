-- A file as sections that are lists of data lines.
use Rattle.std.specs.Prelude.{◌≡◌, ℕ, Bool, true, false, ◌==◌, if◌then◌else◌, List, [], ◌∷◌, ◌++◌}
use Rattle.std.specs.Prelude.{map, filter, Option, Some, None, Result, Ok}
use Rattle.bl_text.specs.Pieces.{is_blank, words_of}
use Rattle.bl_cards.specs.declared.kind.What.{What}
use Rattle.bl_cards.specs.declared.kind.Section.{Section}
use Rattle.bl_cards.specs.declared.kind.Section.TheVariants.{Start, Rows, Columns, Rhs, Ranges}
use Rattle.bl_cards.specs.declared.kind.Section.TheVariants.{Bounds}
use Rattle.bl_cards.specs.Said.{Said, no_columns, no_set, ◌>>=◌}
use Rattle.bl_cards.specs.Lines.{section_of, rank, rows_line, columns_line, given_line, bounds_line}
use Rattle.bl_cards.specs.Reading.{is_end}

-- a data line: the section that is open, and the words
pub record DataLine : Type 0 where
  pub section : Section
  pub words : List (List ℕ)

-- a data line begins with a blank, and a comment with `*`
abbrev pub is_data : List ℕ → Bool
is_data [] = true
is_data (b ∷ bytes) = is_blank b

abbrev pub words_said : List ℕ → List (List ℕ)
words_said [] = []
words_said (b ∷ bytes) = if b == 42 then [] else words_of (b ∷ bytes)

-- the section that is open behind a line
abbrev pub named_or : Section → Option Section → Section
named_or now None = now
named_or now (Some next) = next

abbrev pub section_behind : Section → Bool → List (List ℕ) → Section
section_behind now true words = now
section_behind now false [] = now
section_behind now false (word ∷ words) = named_or now (section_of word)

abbrev pub data_of : Section → Bool → List (List ℕ) → List DataLine
data_of now true (word ∷ words) = record { section = now; words = word ∷ words } ∷ []
data_of now true [] = []
data_of now false words = []

-- the data lines up to the ENDATA line
abbrev pub data_lines : Section → List (List ℕ) → List DataLine
data_lines now [] = []
data_lines now (line ∷ lines) =
    if is_end now then []
    else data_of now (is_data line) (words_said line)
    ++ data_lines (section_behind now (is_data line) (words_said line)) lines

abbrev pub in_section : Section → List DataLine → List (List (List ℕ))
in_section section lines = map (λ l. l.words) (filter (λ l. rank l.section == rank section) lines)

-- the data lines of a section
abbrev pub lines_in : Section → List (List ℕ) → List (List (List ℕ))
lines_in section lines = in_section section (data_lines Start lines)

-- lines taken in turn: what they say together, or the first rule that one breaks
abbrev pub in_turn : {A : Type 0} → (A → List (List ℕ) → Result A What) → A → List (List (List ℕ))
    → Result A What
in_turn take said [] = Ok said
in_turn take said (words ∷ lines) = take said words >>= λ next. in_turn take next lines

-- the second word of a line
abbrev pub second_word : List (List ℕ) → List ℕ
second_word [] = []
second_word (first ∷ []) = []
second_word (first ∷ second ∷ words) = second

-- each section says what its own data lines say in turn: ROWS alone the rows, COLUMNS the
-- columns and the numbers in those rows, and so on
pub record IsReadBySections (lines : List (List ℕ)) (s : Said) : Type 0 where
  pub rows : in_turn rows_line [] (lines_in Rows lines) ≡ Ok s.rows
  pub names : map (λ r. r.name) s.rows ≡ map second_word (lines_in Rows lines)
  pub columns : in_turn (columns_line s.rows) no_columns (lines_in Columns lines) ≡ Ok s.columns
  pub rhs : in_turn (given_line false s.rows) no_set (lines_in Rhs lines) ≡ Ok s.rhs
  pub ranges : in_turn (given_line true s.rows) no_set (lines_in Ranges lines) ≡ Ok s.ranges
  pub bounds : in_turn (bounds_line s.columns.names) no_set (lines_in Bounds lines) ≡ Ok s.bounds
