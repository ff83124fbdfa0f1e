-- Where a column has numbers that are not 0: places that rise.
use Rattle.std.specs.Prelude.{ℕ, suc, List, [], ◌∷◌, ◌<◌, ◌≤◌, length}
use Rattle.bl_fixed.specs.declared.Fixed.{Fixed}
use Rattle.bl_factor.specs.Vectors.{at, IsPivot}

-- the places rise from `low` on and are below n
abbrev pub IsRising : ℕ → ℕ → List ℕ → Type 0
IsRising low n [] = Unit {0}
IsRising low n (p ∷ ps) = (low ≤ p) × (p < n) × IsRising (suc p) n ps

-- a row with a large enough number
pub record IsPivotRow (image : List Fixed) (row : ℕ) : Type 0 where
  pub row_in : row < length image
  pub pivot : IsPivot (at image row)
