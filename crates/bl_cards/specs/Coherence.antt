-- What holds of everything that a file says.
use Rattle.std.specs.Prelude.{◌≡◌, ℕ, ◌<◌, ◌≤◌, ◌^◌, ◌⊎◌, false, List, length, map, All, AllPairs}
use Rattle.std.specs.Prelude.{ℤ, unsigned_abs}
use Rattle.bl_num.specs.declared.Decimal.{Decimal}
use Rattle.bl_num.specs.Spellings.{IsCanonical, IsWithinLimits}
use Rattle.bl_problem.specs.Program.{IsName, IsRowName}
use Rattle.bl_cards.specs.Said.{same, Differ, RowLine, Cell, Given, Card, Grid, Said}
use Rattle.bl_cards.specs.Lines.{count_limited}

-- a decimal that was read
pub record IsRead (d : Decimal) : Type 0 where
  pub canonical : IsCanonical d
  pub limits : IsWithinLimits d

-- a bound that was read
abbrev pub IsSmall : ℤ → Type 0
IsSmall z = unsigned_abs z ≤ 10 ^ 9

-- a number of RHS or RANGES
abbrev pub IsGiven : Given → Type 0
IsGiven g = IsRead g.number

-- a card of BOUNDS
abbrev pub IsCard : Card → Type 0
IsCard c = IsSmall c.number

pub record AreRows (rows : List RowLine) : Type 0 where
  pub names : All (λ r. IsRowName r.name) rows
  pub differ : Differ (map (λ r. r.name) rows)
  pub few : count_limited rows ≤ 1000

-- a number of one of n columns
pub record IsCell (n : ℕ) (c : Cell) : Type 0 where
  pub within : c.column < n
  pub number : IsRead c.number

-- numbers come column by column, one for a column and row
abbrev pub IsBefore : Cell → Cell → Type 0
IsBefore c d = (c.column < d.column) ⊎ ((c.column ≡ d.column) × (same d.row c.row ≡ false))

pub record AreColumns (g : Grid) : Type 0 where
  pub named : All IsName g.names
  pub differ : Differ g.names
  pub few : length g.names ≤ 1000
  pub each : All (IsCell (length g.names)) g.cells
  pub rising : AllPairs IsBefore g.cells

pub record IsCoherent (s : Said) : Type 0 where
  pub lines : AreRows s.rows
  pub grid : AreColumns s.columns
  pub rhs : All IsGiven s.rhs.given
  pub ranges : All IsGiven s.ranges.given
  pub cards : All IsCard s.bounds.given
