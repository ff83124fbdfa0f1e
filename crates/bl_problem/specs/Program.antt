-- An integer program with bounded whole-number columns, as contracts see a problem.
use Rattle.std.specs.Prelude.{ℕ, List, [], length, ◌≤◌, ◌≢◌, ◌≡◌, ◌^◌, ℤ, pos, ◌*ℤ◌, All}
use Rattle.std.specs.Prelude.{AllPairs, codes}
use Rattle.bl_problem.specs.Sums.{IsWithin}
use Rattle.bl_problem.specs.Rows.{AreTerms, AreEnds}
use Rattle.bl_problem.specs.declared.problem.Column.{Column}
use Rattle.bl_problem.specs.declared.problem.Row.{Row}
use Rattle.bl_problem.specs.declared.problem.Sense.{Sense}

-- the value is to be minimised; costs and offset are in units of 10 to the power `-scale`. Where
-- the file asks for the greatest value, they are the negatives of the file's
pub record Program : Type 0 where
  pub columns : List Column
  pub rows : List Row
  pub objective : List ℕ
  pub scale : ℕ
  pub offset : ℤ
  pub sense : Sense

-- neither a space, a tab, a carriage return nor a line feed
pub record IsVisible (byte : ℕ) : Type 0 where
  pub space : byte ≢ 32
  pub tab : byte ≢ 9
  pub return : byte ≢ 13
  pub feed : byte ≢ 10

-- a name that a file can spell
pub record IsName (bytes : List ℕ) : Type 0 where
  pub some : bytes ≢ []
  pub visible : All IsVisible bytes

-- a row's name is no marker
pub record IsRowName (bytes : List ℕ) : Type 0 where
  pub name : IsName bytes
  pub plain : bytes ≢ codes "'MARKER'"

pub record IsColumn (c : Column) : Type 0 where
  pub name : IsName c.name
  pub low : IsWithin (10 ^ 9) c.low
  pub high : IsWithin (10 ^ 9) c.high
  pub cost : IsWithin (10 ^ 15) c.cost

-- a row over n columns
pub record IsRow (n : ℕ) (r : Row) : Type 0 where
  pub name : IsRowName r.name
  pub terms : AreTerms n r.terms
  pub ends : AreEnds r.low r.high

-- ten divides z
abbrev pub HasTen : ℤ → Type 0
HasTen z = (q : ℤ) × (z ≡ q *ℤ pos 10)

-- what holds of every problem
pub record IsProgram (p : Program) : Type 0 where
  pub few_columns : length p.columns ≤ 1000
  pub few_rows : length p.rows ≤ 1000
  pub columns : All IsColumn p.columns
  pub column_names : AllPairs (λ c d. c.name ≢ d.name) p.columns
  pub rows : All (IsRow (length p.columns)) p.rows
  pub row_names : AllPairs (λ r s. r.name ≢ s.name) p.rows
  pub objective : IsRowName p.objective
  pub no_row : All (λ r. r.name ≢ p.objective) p.rows
  pub offset : IsWithin (10 ^ 24) p.offset
  pub scale : p.scale ≤ 27
  -- a smaller scale would not do
  pub least_scale : p.scale ≢ 0 → All (λ c. HasTen c.cost) p.columns → HasTen p.offset → ⊥
