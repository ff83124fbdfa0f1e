-- Cuts: which suit a problem, and which hold for all its feasible points.
use Rattle.std.specs.Prelude.{List, length, ◌^◌, ℤ, ◌≤ℤ◌}
use Rattle.bl_problem.specs.Sums.{IsWithin, sum_of_terms}
use Rattle.bl_problem.specs.Rows.{AreTerms}
use Rattle.bl_problem.specs.Program.{Program}
use Rattle.bl_problem.specs.Points.{IsFeasible}
use Rattle.bl_problem.specs.declared.cut.Cut.{Cut}

-- the cut's terms are on the problem's columns, in rising order and never zero, and it keeps the
-- limits
pub record SuitsProblem (p : Program) (cut : Cut) : Type 0 where
  pub terms : AreTerms (length p.columns) cut.terms
  pub right : IsWithin (10 ^ 30) cut.right

-- the cut's sum at x is at most its right side
abbrev pub MeetsCut : List ℤ → Cut → Type 0
MeetsCut x cut = sum_of_terms cut.terms x ≤ℤ cut.right

-- each feasible point meets the cut
abbrev pub IsValidCut : Program → Cut → Type 0
IsValidCut p cut = (x : List ℤ) → IsFeasible p x → MeetsCut x cut
