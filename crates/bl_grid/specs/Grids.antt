-- The values that points of whole numbers can have.
use Rattle.std.specs.Prelude.{◌≡◌, ℕ, ◌<◌, ℤ, ◌*ℤ◌, length}
use Rattle.bl_num.specs.Exact.{at}
use Rattle.bl_problem.specs.Program.{Program}
use Rattle.bl_problem.specs.Points.{costs_of}

-- the number is a multiple of g
abbrev pub IsMultiple : ℤ → ℤ → Type 0
IsMultiple g n = (k : ℤ) × (n ≡ k *ℤ g)

-- each cost is a multiple of g
pub record DividesCosts (p : Program) (g : ℤ) : Type 0 where
  pub each : (j : ℕ) → j < length p.columns → IsMultiple g (at (costs_of p.columns) j)
