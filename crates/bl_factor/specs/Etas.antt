-- The elementary factors as they are kept.
use Rattle.std.specs.Prelude.{ℕ, List, ◌<◌, map, nat_eq, if◌then◌else◌}
use Rattle.std.specs.List.{All}
use Rattle.bl_fixed.specs.declared.Fixed.{Fixed}
use Rattle.bl_factor.specs.Others.{listed}
use Rattle.bl_factor.specs.declared.eta.Eta.{Eta}
use Rattle.bl_factor.specs.Vectors.{column_of, IsPivot}
use Rattle.bl_factor.specs.Sparse.{value_at, AreBeside}
use Rattle.bl_factor.specs.Elimination.{Elimination}

-- the column's entry at i
abbrev pub eta_entry : Eta → ℕ → Fixed
eta_entry eta i = if nat_eq i eta.place then eta.pivot else value_at (listed eta.others) i

-- the factor of size n that an eta stands for
abbrev pub elimination_of : ℕ → Eta → Elimination
elimination_of n eta = record {
  place = eta.place;
  row = eta.row;
  column =
      column_of n (eta_entry eta);
}

abbrev pub eliminations : ℕ → List Eta → List Elimination
eliminations n etas = map (elimination_of n) etas

pub record IsEta (n : ℕ) (eta : Eta) : Type 0 where
  pub place_in : eta.place < n
  pub row_in : eta.row < n
  pub pivot : IsPivot eta.pivot
  pub beside : AreBeside n eta.place (listed eta.others)

abbrev pub AreEtas : ℕ → List Eta → Type 0
AreEtas n etas = All (IsEta n) etas
