-- What the lines of COLUMNS name: columns, and numbers with their columns' and rows' names.
use Rattle.std.specs.Prelude.{◌≡◌, ℕ, Bool, false, not, if◌then◌else◌, codes, List, [], ◌∷◌, ◌++◌}
use Rattle.std.specs.Prelude.{map, filter, slice_index_or, Option, Some, None, Result, Ok, Err}
use Rattle.std.specs.List.{flat_map}
use Rattle.bl_num.specs.declared.Decimal.{Decimal}
use Rattle.bl_cards.specs.declared.kind.What.{What}
use Rattle.bl_cards.specs.declared.kind.Role.{Role}
use Rattle.bl_cards.specs.declared.kind.Section.TheVariants.{Columns}
use Rattle.bl_cards.specs.Said.{RowLine, Cell, Said, place_of, same}
use Rattle.bl_cards.specs.Lines.{role_of, is_extra, is_marker, nothing_given, number_at}
use Rattle.bl_cards.specs.Sections.{lines_in}

abbrev pub first_word : List (List ℕ) → List ℕ
first_word [] = []
first_word (word ∷ words) = word

-- the lines of COLUMNS without the marker lines
abbrev pub column_lines : List (List ℕ) → List (List (List ℕ))
column_lines lines = filter (λ words. not (is_marker words)) (lines_in Columns lines)

abbrev pub added_once : List (List ℕ) → Option ℕ → List ℕ → List (List ℕ)
added_once names None name = names ++ name ∷ []
added_once names (Some place) name = names

-- behind these names, each further one once, in the order of first mention
abbrev pub first_mentions : List (List ℕ) → List (List ℕ) → List (List ℕ)
first_mentions names [] = names
first_mentions names (name ∷ more) = first_mentions (added_once names (place_of names name) name)
    more

-- whether a marker stretch is open behind a marker line
abbrev pub opens : List (List ℕ) → Bool
opens (name ∷ mark ∷ word ∷ words) = same word (codes "'INTORG'")
opens words = false

-- whether a marker stretch is open at the first line of a column
abbrev pub is_stretched : List ℕ → Bool → List (List (List ℕ)) → Bool
is_stretched name inside [] = false
is_stretched name inside (words ∷ lines) =
    if is_marker words then is_stretched name (opens words) lines
    else if same name (first_word words) then inside
    else is_stretched name inside lines

pub record Named : Type 0 where
  pub column : List ℕ
  pub row : List ℕ
  pub number : Decimal

abbrev pub number_or_zero : Result Decimal What → Decimal
number_or_zero (Ok d) = d
number_or_zero (Err w) = nothing_given

-- a number on a row that is neither the objective nor has ends is passed over
abbrev pub number_on : Option Role → List ℕ → List ℕ → List ℕ → List Named
number_on None column row word = []
number_on (Some role) column row word = if is_extra role then []
    else record { column = column; row = row; number = number_or_zero (number_at word) } ∷ []

-- one or two pairs of a row and a number
abbrev pub numbers_on : List RowLine → List (List ℕ) → List Named
numbers_on rows (column ∷ row ∷ word ∷ []) = number_on (role_of rows row) column row word
numbers_on rows (column ∷ row ∷ word ∷ row2 ∷ word2 ∷ []) =
    number_on (role_of rows row) column row word ++ number_on (role_of rows row2) column row2 word2
numbers_on rows words = []

-- a number with its column's name
abbrev pub named : List (List ℕ) → Cell → Named
named names c = record { column = slice_index_or names c.column []; row = c.row; number = c.number }

pub record IsNamedByLines (lines : List (List ℕ)) (s : Said) : Type 0 where
  -- the columns are the first words of COLUMNS, each once, in the order of first mention
  pub columns : s.columns.names ≡ first_mentions [] (map first_word (column_lines lines))
  -- a column stands in a marker stretch exactly where one is open at the column's first line
  pub whole : s.columns.whole ≡ map (λ name. is_stretched name false (lines_in Columns lines))
      s.columns.names
  -- the numbers are those of its pairs, in file order
  pub numbers : map (named s.columns.names) s.columns.cells
      ≡ flat_map (numbers_on s.rows) (column_lines lines)
