-- What each line adds to what was said, or the first rule that it breaks.
use Rattle.std.specs.Prelude.{ℕ, ◌+◌, ◌-◌, ◌*◌, ◌^◌, Bool, true, false, not, ◌&&◌, ◌||◌, ◌==◌}
use Rattle.std.specs.Prelude.{nat_le, nat_lt, if◌then◌else◌, List, [], ◌∷◌, ◌++◌, length, Option}
use Rattle.std.specs.Prelude.{Some, None, is_none, is_some, ℤ, pos, nat_abs, Result, Ok, Err}
use Rattle.std.specs.Prelude.{codes}
use Rattle.std.specs.List.{list_any, list_all}
use Rattle.bl_num.specs.declared.Decimal.{Decimal}
use Rattle.bl_problem.specs.declared.problem.Sense.{Sense}
use Rattle.bl_problem.specs.declared.problem.Sense.TheVariants.{Min, Max}
use Rattle.bl_num.specs.declared.NumberFault.{NumberFault}
use Rattle.bl_num.specs.declared.NumberFault.TheVariants as number
use Rattle.bl_num.specs.Decimals.{decimal_of}
use Rattle.bl_cards.specs.declared.kind.What.{What}
use Rattle.bl_cards.specs.declared.kind.What.TheVariants as what
use Rattle.bl_cards.specs.declared.kind.Section.{Section}
use Rattle.bl_cards.specs.declared.kind.Section.TheVariants.{Start, Name, Objsense, Rows, Columns}
use Rattle.bl_cards.specs.declared.kind.Section.TheVariants.{Rhs, Ranges, Bounds, End}
use Rattle.bl_cards.specs.declared.kind.Role.{Role}
use Rattle.bl_cards.specs.declared.kind.Role.TheVariants.{Objective, Extra, AtMost, AtLeast, Equal}
use Rattle.bl_cards.specs.declared.kind.Act.{Act}
use Rattle.bl_cards.specs.declared.kind.Act.TheVariants as act
use Rattle.bl_cards.specs.Said.{same, place_of, RowLine, Cell, Given, Card, SetOf, Grid, Said}
use Rattle.bl_cards.specs.Said.{◌>>=◌, refuse, there_or}

-- ---- names

abbrev pub role_of : List RowLine → List ℕ → Option Role
role_of [] name = None
role_of (r ∷ rows) name = if same name r.name then Some r.role else role_of rows name

-- ---- numbers

abbrev pub nothing_given : Decimal
nothing_given = record { mantissa = pos 0; places = 0 }

abbrev pub number_or_fault : Result Decimal NumberFault → Result Decimal What
number_or_fault (Ok d) = Ok d
number_or_fault (Err number.Spelling) = Err what.Number
number_or_fault (Err number.TooWide) = Err what.TooWide

abbrev pub number_at : List ℕ → Result Decimal What
number_at word = number_or_fault (decimal_of word)

-- ---- OBJSENSE

-- what a word asks for
abbrev pub sense_of : List ℕ → Option Sense
sense_of word =
    if same word (codes "MAX") || same word (codes "MAXIMIZE") then Some Max
    else if same word (codes "MIN") || same word (codes "MINIMIZE") then Some Min
    else None

-- the sense that a word names
abbrev pub sense_word : List ℕ → Result (Option Sense) What
sense_word word = there_or what.Words (sense_of word) >>= λ sense. Ok (Some sense)

-- one word, where none came before
abbrev pub sense_line : Option Sense → List (List ℕ) → Result (Option Sense) What
sense_line said [] = Err what.Words
sense_line said (word ∷ []) = sense_word word >>= λ sense. refuse (is_some said) what.Twice
    >>= λ once. Ok sense
sense_line said (word ∷ more ∷ words) = Err what.Words

-- without OBJSENSE the objective is minimised
abbrev pub sense_or_min : Option Sense → Sense
sense_or_min None = Min
sense_or_min (Some sense) = sense

-- ---- ROWS

abbrev pub is_objective : Role → Bool
is_objective Objective = true
is_objective Extra = false
is_objective AtMost = false
is_objective AtLeast = false
is_objective Equal = false

abbrev pub is_extra : Role → Bool
is_extra Objective = false
is_extra Extra = true
is_extra AtMost = false
is_extra AtLeast = false
is_extra Equal = false

-- numbers on a row without ends are passed over: in RANGES on the objective too
abbrev pub is_passed : Bool → Role → Bool
is_passed with_objective role = is_extra role || with_objective && is_objective role

-- the row has ends
abbrev pub is_limited : Role → Bool
is_limited role = not (is_objective role) && not (is_extra role)

abbrev pub has_objective : List RowLine → Bool
has_objective rows = list_any (λ r. is_objective r.role) rows

-- the name of the objective
abbrev pub objective_in : List RowLine → List ℕ
objective_in [] = []
objective_in (r ∷ rows) = if is_objective r.role then r.name else objective_in rows

abbrev pub count_limited : List RowLine → ℕ
count_limited [] = 0
count_limited (r ∷ rows) = (if is_limited r.role then 1 else 0) + count_limited rows

abbrev pub role_for : List ℕ → Bool → Option Role
role_for kind had_objective =
    if same kind (codes "N") then Some (if had_objective then Extra else Objective)
    else if same kind (codes "L") then Some AtMost
    else if same kind (codes "G") then Some AtLeast
    else if same kind (codes "E") then Some Equal
    else None

abbrev pub add_row : List RowLine → List ℕ → Role → Result (List RowLine) What
add_row rows name role = do
  once ← refuse (not (is_none (role_of rows name))) what.Twice
  plain ← refuse (same name (codes "'MARKER'")) what.Marker
  few ← refuse (is_limited role && nat_le 1000 (count_limited rows)) what.TooMany
  Ok (rows ++ record { name = name; role = role } ∷ [])

-- a kind and a name
abbrev pub rows_line : List RowLine → List (List ℕ) → Result (List RowLine) What
rows_line rows [] = Err what.Words
rows_line rows (kind ∷ []) = Err what.Words
rows_line rows (kind ∷ name ∷ []) = do
  role ← there_or what.Words (role_for kind (has_objective rows))
  add_row rows name role
rows_line rows (kind ∷ name ∷ more ∷ words) = Err what.Words

-- ---- COLUMNS

abbrev pub started : Grid → List ℕ → Grid
started g name = record g {
  names = g.names ++ name ∷ [];
  whole = g.whole ++ g.in_stretch
      ∷ [];
  is_open = true;
}

-- the open column goes on, or a new one starts; a column that was left does not come again
abbrev pub at_place : Grid → List ℕ → Option ℕ → Result Grid What
at_place g name None = refuse (nat_le 1000 (length g.names)) what.TooMany
    >>= λ few. Ok (started g name)
at_place g name (Some place) = refuse (not (g.is_open && place + 1 == length g.names)) what.Twice
    >>= λ last. Ok g

abbrev pub at_column : Grid → List ℕ → Result Grid What
at_column g name = at_place g name (place_of g.names name)

-- the column has a number in the row
abbrev pub has_cell : List Cell → ℕ → List ℕ → Bool
has_cell cells column row = list_any (λ c. c.column == column && same row c.row) cells

-- a number of the last column
abbrev pub add_cell : Grid → List ℕ → Decimal → Result Grid What
add_cell g row number = do
  once ← refuse (has_cell g.cells (length g.names - 1) row) what.Twice
  Ok (record g {
    cells = g.cells ++ record {
      column = length g.names - 1;
      row = row;
      number =
          number;
    } ∷ [];
  })

-- a number of a row without ends other than the objective is passed over
abbrev pub put_cell : Grid → List ℕ → Decimal → Role → Result Grid What
put_cell g row number role = if is_extra role then Ok g else add_cell g row number

abbrev pub cell : List RowLine → Grid → List ℕ → List ℕ → Result Grid What
cell rows g row word = do
  role ← there_or what.UnknownRow (role_of rows row)
  number ← number_at word
  put_cell g row number role

-- a second number behind what the first one gave
abbrev pub cell_too : List RowLine → Result Grid What → List ℕ → List ℕ → Result Grid What
cell_too rows first row word = first >>= λ g. cell rows g row word

-- a number of a column, which goes on or starts
abbrev pub column_cell : List RowLine → Grid → List ℕ → List ℕ → List ℕ → Result Grid What
column_cell rows g name row word = at_column g name >>= λ here. cell rows here row word

-- a column, and one or two pairs of a row and a number
abbrev pub column_line : List RowLine → Grid → List (List ℕ) → Result Grid What
column_line rows g (name ∷ row ∷ word ∷ []) = column_cell rows g name row word
column_line rows g (name ∷ row ∷ word ∷ row2 ∷ word2 ∷ []) =
    cell_too rows (column_cell rows g name row word) row2 word2
column_line rows g words = Err what.Words

-- a marker leaves the column before it
abbrev pub marker : Grid → List ℕ → Result Grid What
marker g word =
    if same word (codes "'INTORG'") then (refuse g.in_stretch what.Marker >>= λ new. Ok (record g { in_stretch = true; is_open = false }))
    else if same word (codes "'INTEND'") then (refuse (not g.in_stretch) what.Marker >>= λ new. Ok (record g { in_stretch = false; is_open = false }))
    else Err what.Marker

abbrev pub marker_line : Grid → List (List ℕ) → Result Grid What
marker_line g (name ∷ mark ∷ word ∷ []) = marker g word
marker_line g words = Err what.Marker

abbrev pub is_marker : List (List ℕ) → Bool
is_marker [] = false
is_marker (first ∷ []) = false
is_marker (first ∷ second ∷ words) = same second (codes "'MARKER'")

abbrev pub columns_line : List RowLine → Grid → List (List ℕ) → Result Grid What
columns_line rows g words = if is_marker words then marker_line g words
    else column_line rows g words

-- ---- sets

-- the first set that is named is the first set
abbrev pub is_first_set : Option (List ℕ) → List ℕ → Bool
is_first_set None name = true
is_first_set (Some first) name = same name first

abbrev pub with_set : {A : Type 0} → SetOf A → List ℕ → SetOf A
with_set s name = record s { set = Some name }

-- ---- RHS and RANGES

abbrev pub has_given : List Given → List ℕ → Bool
has_given given row = list_any (λ g. same row g.row) given

-- the number that a section gives for a row
abbrev pub given_for : List Given → List ℕ → Option Decimal
given_for [] row = None
given_for (g ∷ given) row = if same row g.row then Some g.number else given_for given row

abbrev pub add_given : SetOf Given → List ℕ → Decimal → Result (SetOf Given) What
add_given s row number = do
  once ← refuse (has_given s.given row) what.Twice
  Ok (record s { given = s.given ++ record { row = row; number = number } ∷ [] })

-- a number for a row
abbrev pub given : Bool → List RowLine → SetOf Given → List ℕ → List ℕ → Result (SetOf Given) What
given with_objective rows s row word = do
  role ← there_or what.UnknownRow (role_of rows row)
  number ← number_at word
  if is_passed with_objective role then Ok s else add_given s row number

abbrev pub given_two : Bool → List RowLine → SetOf Given → List ℕ → List ℕ → List ℕ → List ℕ
    → Result (SetOf Given) What
given_two o rows s row word row2 word2 = given o rows s row word
    >>= λ first. given o rows first row2 word2

-- one or two pairs of row and number, and perhaps a set's name before them; a line of another
-- set is passed over
abbrev pub given_line : Bool → List RowLine → SetOf Given → List (List ℕ)
    → Result (SetOf Given) What
given_line o rows s (row ∷ word ∷ []) = given o rows s row word
given_line o rows s (set ∷ row ∷ word ∷ []) = if is_first_set s.set set
    then given o rows (with_set s set) row word else Ok s
given_line o rows s (row ∷ word ∷ row2 ∷ word2 ∷ []) = given_two o rows s row word row2 word2
given_line o rows s (set ∷ row ∷ word ∷ row2 ∷ word2 ∷ []) =
    if is_first_set s.set set then given_two o rows (with_set s set) row word row2 word2 else Ok s
given_line o rows s words = Err what.Words

-- ---- BOUNDS

-- what a card's kind does
abbrev pub act_of : List ℕ → Option Act
act_of kind =
    if same kind (codes "UP") then Some act.High
    else if same kind (codes "LO") then Some act.Low
    else if same kind (codes "FX") then Some act.Both
    else if same kind (codes "FR") then Some act.Free
    else if same kind (codes "MI") then Some act.NoLow
    else if same kind (codes "PL") then Some act.NoHigh
    else if same kind (codes "BV") then Some act.Binary
    else if same kind (codes "UI") then Some act.WholeHigh
    else if same kind (codes "LI") then Some act.WholeLow
    else None

abbrev pub has_number : Act → Bool
has_number act.High = true
has_number act.Low = true
has_number act.Both = true
has_number act.Free = false
has_number act.NoLow = false
has_number act.NoHigh = false
has_number act.Binary = false
has_number act.WholeHigh = true
has_number act.WholeLow = true

-- a bound is a whole number within 10^9
abbrev pub bound_at : List ℕ → Result ℤ What
bound_at word = do
  number ← number_at word
  near ← refuse (nat_lt (10 ^ 9 * 10 ^ number.places) (nat_abs number.mantissa)) what.TooWide
  whole ← refuse (nat_lt 0 number.places) what.FractionBound
  Ok number.mantissa

abbrev pub add_card : SetOf Card → List ℕ → Act → ℤ → SetOf Card
add_card s column a n = record
    s { given = s.given ++ record { column = column; act = a; number = n } ∷ [] }

abbrev pub number_card : List (List ℕ) → Act → SetOf Card → List ℕ → List ℕ
    → Result (SetOf Card) What
number_card columns a s column word = do
  known ← there_or what.UnknownColumn (place_of columns column)
  n ← bound_at word
  Ok (add_card s column a n)

abbrev pub plain_card : List (List ℕ) → Act → SetOf Card → List ℕ → Result (SetOf Card) What
plain_card columns a s column = there_or what.UnknownColumn (place_of columns column)
    >>= λ known. Ok (add_card s column a (pos 0))

-- what follows a kind that takes a number
abbrev pub number_words : List (List ℕ) → Act → SetOf Card → List (List ℕ)
    → Result (SetOf Card) What
number_words columns a s (column ∷ word ∷ []) = number_card columns a s column word
number_words columns a s (set ∷ column ∷ word ∷ []) = if is_first_set s.set set
    then number_card columns a (with_set s set) column word else Ok s
number_words columns a s words = Err what.Words

-- what follows another kind; a word behind the column is not looked at
abbrev pub plain_words : List (List ℕ) → Act → SetOf Card → List (List ℕ) → Result (SetOf Card) What
plain_words columns a s (column ∷ []) = plain_card columns a s column
plain_words columns a s (set ∷ column ∷ []) = if is_first_set s.set set
    then plain_card columns a (with_set s set) column else Ok s
plain_words columns a s (set ∷ column ∷ unread ∷ []) = if is_first_set s.set set
    then plain_card columns a (with_set s set) column else Ok s
plain_words columns a s words = Err what.Words

abbrev pub bounds_line : List (List ℕ) → SetOf Card → List (List ℕ) → Result (SetOf Card) What
bounds_line columns s [] = Err what.Words
bounds_line columns s (kind ∷ words) = do
  a ← there_or what.Words (act_of kind)
  if has_number a then number_words columns a s words else plain_words columns a s words

-- ---- any line

-- a data line of the section that is open
abbrev pub data_line : Section → Said → List (List ℕ) → Result Said What
data_line Start s words = Err what.Section
data_line Name s words = Err what.Section
data_line Objsense s words = sense_line s.sense words >>= λ sense. Ok (record s { sense = sense })
data_line Rows s words = rows_line s.rows words >>= λ rows. Ok (record s { rows = rows })
data_line Columns s words = columns_line s.rows s.columns words
    >>= λ columns. Ok (record s { columns = columns })
data_line Rhs s words = given_line false s.rows s.rhs words >>= λ rhs. Ok (record s { rhs = rhs })
data_line Ranges s words = given_line true s.rows s.ranges words
    >>= λ ranges. Ok (record s { ranges = ranges })
data_line Bounds s words = bounds_line s.columns.names s.bounds words
    >>= λ bounds. Ok (record s { bounds = bounds })
data_line End s words = Err what.Section

abbrev pub section_of : List ℕ → Option Section
section_of word =
    if same word (codes "NAME") then Some Name
    else if same word (codes "OBJSENSE") then Some Objsense
    else if same word (codes "ROWS") then Some Rows
    else if same word (codes "COLUMNS") then Some Columns
    else if same word (codes "RHS") then Some Rhs
    else if same word (codes "RANGES") then Some Ranges
    else if same word (codes "BOUNDS") then Some Bounds
    else if same word (codes "ENDATA") then Some End
    else None

-- the sections' order
abbrev pub rank : Section → ℕ
rank Start = 0
rank Name = 1
rank Objsense = 2
rank Rows = 3
rank Columns = 4
rank Rhs = 5
rank Ranges = 6
rank Bounds = 7
rank End = 8

abbrev pub is_required : Section → Bool
is_required Start = true
is_required Name = true
is_required Objsense = false
is_required Rows = true
is_required Columns = true
is_required Rhs = false
is_required Ranges = false
is_required Bounds = false
is_required End = true

abbrev pub sections : List Section
sections = Name ∷ Objsense ∷ Rows ∷ Columns ∷ Rhs ∷ Ranges ∷ Bounds ∷ End ∷ []

-- the section comes later in the order, and no required one lies between
abbrev pub may_follow : Section → Section → Bool
may_follow now next = nat_lt (rank now) (rank next)
    && list_all (λ p. not (is_required p && nat_lt (rank now) (rank p)
    && nat_lt (rank p) (rank next))) sections

-- OBJSENSE is open, and its word did not come
abbrev pub lacks_word : Section → Option Sense → Bool
lacks_word section sense = rank section == rank Objsense && is_none sense

-- the word behind the section's name is read on an OBJSENSE line alone; all others are passed over
abbrev pub opened_sense : Section → Option Sense → List (List ℕ) → Result (Option Sense) What
opened_sense section said [] = Ok said
opened_sense section said (word ∷ words) = if rank section == rank Objsense then sense_word word
    else Ok said

-- a section's name, and the words behind it
abbrev pub section_line : Said → List ℕ → List (List ℕ) → Result Said What
section_line s name words = do
  next ← there_or what.Section (section_of name)
  fits ← refuse (not (may_follow s.section next)) what.Section
  given ← refuse (lacks_word s.section s.sense) what.Words
  sense ← opened_sense next s.sense words
  Ok (record s { section = next; sense = sense })
