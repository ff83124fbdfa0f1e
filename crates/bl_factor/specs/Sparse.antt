-- Columns without their zeros: entries by rising place.
use Rattle.std.specs.Prelude.{◌≡◌, ℕ, suc, false, List, [], ◌∷◌, ◌<◌, ◌≤◌, length, nat_eq}
use Rattle.std.specs.Prelude.{if◌then◌else◌, Option, Some, None, IfSome}
use Rattle.std.specs.List.{All}
use Rattle.std.specs.Global.{Vec}
use Rattle.bl_fixed.specs.declared.Fixed.{Fixed}
use Rattle.bl_factor.specs.declared.sparse.Entry.{Entry}
use Rattle.bl_factor.specs.Vectors.{nought, is_nought, at, column_of, unit_column}

-- the places rise from `low` on and are below n, and no entry is 0
abbrev pub IsSparse : ℕ → ℕ → List Entry → Type 0
IsSparse low n [] = Unit {0}
IsSparse low n (e ∷ es) = (low ≤ e.place) × (e.place < n) × (is_nought e.value ≡ false)
    × IsSparse (suc e.place) n es

-- the number at a place
abbrev pub value_at : List Entry → ℕ → Fixed
value_at [] i = nought
value_at (e ∷ es) i = if nat_eq e.place i then e.value else value_at es i

-- the whole column
abbrev pub dense : ℕ → List Entry → List Fixed
dense n es = column_of n (value_at es)

-- the entries of a column
pub record AreEntries (column : List Fixed) (es : List Entry) : Type 0 where
  pub sparse : IsSparse 0 (length column) es
  pub values : (i : ℕ) → i < length column → value_at es i ≡ at column i

-- entries below n, none of them at the place
pub record AreBeside (n place : ℕ) (es : List Entry) : Type 0 where
  pub sparse : IsSparse 0 n es
  pub apart : value_at es place ≡ nought

-- columns by their entries, or None for the unit column of its place
abbrev pub AreColumns : ℕ → List (Option (Vec Entry)) → Type 0
AreColumns n columns = All (λ o. IfSome o (λ c. IsSparse 0 n c.items)) columns

-- the whole column of a place
abbrev pub whole : ℕ → ℕ → Option (Vec Entry) → List Fixed
whole n place None = unit_column n place
whole n place (Some c) = dense n c.items

-- the columns of the places from one on
abbrev pub wholes : ℕ → ℕ → List (Option (Vec Entry)) → List (List Fixed)
wholes n place [] = []
wholes n place (o ∷ os) = whole n place o ∷ wholes n (suc place) os

abbrev pub matrix_of : ℕ → List (Option (Vec Entry)) → List (List Fixed)
matrix_of n columns = wholes n 0 columns
