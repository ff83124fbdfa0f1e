-- Points that a heuristic finds.
use Rattle.std.specs.Prelude.{List, length, ◌≡◌, ◌⊎◌, ◌^◌, ℤ, All, Option, Some, None}
use Rattle.bl_problem.specs.Sums.{IsWithin}
use Rattle.bl_problem.specs.Program.{Program}
use Rattle.bl_problem.specs.Points.{InBox, IsFeasible}
use Rattle.bl_problem.specs.declared.cut.Cut.{Cut}
use Rattle.bl_desc.specs.declared.desc.Desc.{Desc}

-- a feasible point of the description's box: one entry for each column, within the limit of bounds
pub record IsFound (p : Program) (d : Desc Cut) (x : List ℤ) : Type 0 where
  pub feasible : IsFeasible p x
  pub box : InBox d.lows d.highs x
  pub width : length x ≡ length p.columns
  pub near : All (IsWithin (10 ^ 9)) x

-- the point was tested for P: it is answered exactly where P holds of it
abbrev pub IsTestOf : (List ℤ → Type 0) → List ℤ → Option (List ℤ) → Type 0
IsTestOf P x o = ((o ≡ Some x) × P x) ⊎ ((o ≡ None) × ¬ (P x))
