-- What contracts see of the reader's parts.
use Rattle.std.specs.Prelude.{◌≡◌, ℕ, List, [], ◌∷◌, Option, Some, None, Result, Ok, Err, map}
use Rattle.std.specs.Prelude.{◌-◌, ◌<◌, ◌≤◌, ◌==◌, length, filter, All, Bool}
use Rattle.bl_num.specs.declared.Decimal.{Decimal}
use Rattle.bl_cards.specs.declared.kind.What.{What}
use Rattle.bl_cards.specs.declared.fault.LineFault.{LineFault}
use Rattle.bl_cards.specs.declared.fault.LineFault.TheVariants as stop
use Rattle.bl_cards.specs.declared.fault.ModelFault.{ModelFault}
use Rattle.bl_cards.specs.declared.fault.ModelFault.TheVariants as model
use Rattle.bl_cards.specs.Reading.{Fault}
use Rattle.bl_cards.specs.declared.kind.Role.{Role}
use denote.Bor.{Bor}
use Rattle.bl_cards.specs.Lines.{count_limited, has_objective}
use Rattle.bl_cards.specs.Said.{RowLine, Cell, Given, Card}
use Rattle.bl_cards.specs.declared.columns.RowCell.{RowCell}
use Rattle.bl_cards.specs.declared.bounds.BoundCard.{BoundCard}

-- A call gave what the definition gives: the value then stands for what was said, or the first
-- broken rule is told, unless memory ran out.
abbrev pub Follows : {U A : Type 0} → Result U LineFault → Result A What → A → Type 0
Follows (Ok u) said new = said ≡ Ok new
Follows (Err stop.Memory) said new = Unit {0}
Follows (Err (stop.Broken w)) said new = said ≡ Err w

-- a call answered with what the definition gives
abbrev pub Gives : {A : Type 0} → Result A LineFault → Result A What → Type 0
Gives (Ok x) said = said ≡ Ok x
Gives (Err stop.Memory) said = Unit {0}
Gives (Err (stop.Broken w)) said = said ≡ Err w

-- a call read a file as the definition says: the value, or the first fault, unless memory ran out
abbrev pub Reads : {A : Type 0} → Result A ModelFault → Result A Fault → Type 0
Reads (Ok x) said = said ≡ Ok x
Reads (Err model.Memory) said = Unit {0}
Reads (Err (model.At line what)) said = said ≡ Err (record { line = line; what = what })

-- names and roles, side by side
abbrev pub row_lines : List (List ℕ) → List Role → List RowLine
row_lines [] roles = []
row_lines (n ∷ names) [] = []
row_lines (n ∷ names) (r ∷ roles) = record { name = n; role = r } ∷ row_lines names roles

-- rows and numbers, side by side
abbrev pub given_lines : List (List ℕ) → List Decimal → List Given
given_lines [] numbers = []
given_lines (n ∷ names) [] = []
given_lines (n ∷ names) (z ∷ numbers) = record { row = n; number = z } ∷ given_lines names numbers

abbrev pub cell_of : RowCell → Cell
cell_of c = record { column = c.column; row = c.row.now; number = c.number }

-- the rows in which a column has a number
abbrev pub rows_in : List Cell → ℕ → List (List ℕ)
rows_in cells column = map (λ c. c.row) (filter (λ c. c.column == column) cells)

-- what the reader keeps beside columns and cells: the rows of the last column, by name
pub record IsGrid (names : List (List ℕ)) (whole : List Bool) (cells : List Cell)
    (here : List (List ℕ)) : Type 0 where
  pub as_many : length whole ≡ length names
  pub few : length names ≤ 1000
  pub within : All (λ c. c.column < length names) cells
  pub here_is : here ≡ rows_in cells (length names - 1)

abbrev pub card_of : BoundCard → Card
card_of c = record { column = c.column.now; act = c.act; number = c.number }

-- the name of a set
abbrev pub set_name : Option (Bor (List ℕ)) → Option (List ℕ)
set_name None = None
set_name (Some name) = Some name.now

-- what the reader keeps beside the rows
pub record AreKept (names : List (List ℕ)) (roles : List Role) (limited : ℕ)
    (had_objective : Bool) : Type 0 where
  pub as_many : length roles ≡ length names
  pub limited_is : limited ≡ count_limited (row_lines names roles)
  pub objective_is : had_objective ≡ has_objective (row_lines names roles)
