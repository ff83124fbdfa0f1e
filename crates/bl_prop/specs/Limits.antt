-- The limits of slacks, lines and decisions.
use Rattle.std.specs.Prelude.{ℕ, ◌<◌, ◌≤◌, length, ◌^◌, ℤ, pos, ◌≤ℤ◌, List, Option, Some, None, All}
use Rattle.bl_problem.specs.Sums.{IsWithin}
use Rattle.bl_problem.specs.Rows.{AreTerms}
use Rattle.bl_problem.specs.declared.decision.Decision.{Decision}
use Rattle.bl_bound.specs.Lines.{Line}

-- a slack that is not negative, and far from the ends of `i128`
pub record IsSlack (s : ℤ) : Type 0 where
  pub low : pos 0 ≤ℤ s
  pub high : s ≤ℤ pos (10 ^ 31)

-- an end, where it is there, is within the limit
abbrev pub IsEnd : Option ℤ → Type 0
IsEnd None = Unit {0}
IsEnd (Some end) = IsWithin (10 ^ 30) end

-- a line over n columns, within the limits
pub record IsLine (n : ℕ) (line : Line) : Type 0 where
  pub terms : AreTerms n line.terms
  pub low : IsEnd line.low
  pub high : IsEnd line.high

abbrev pub AreLines : ℕ → List Line → Type 0
AreLines n lines = All (IsLine n) lines

-- a decision on one of n columns, within the limit
pub record IsDecision (n : ℕ) (d : Decision) : Type 0 where
  pub column : d.column < n
  pub value : IsWithin (10 ^ 9) d.value

-- decisions on n columns, at most 256
pub record AreDecisions (n : ℕ) (ds : List Decision) : Type 0 where
  pub few : length ds ≤ 256
  pub each : All (IsDecision n) ds
