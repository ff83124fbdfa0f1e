-- The terms and the ends of a row.
use Rattle.std.specs.Prelude.{ℕ, List, [], ◌∷◌, ◌==◌, if◌then◌else◌, ◌<◌, ◌≢◌, ◌^◌, ℤ, pos, ◌≤ℤ◌}
use Rattle.std.specs.Prelude.{Option, Some, None, All, AllPairs}
use Rattle.bl_problem.specs.Sums.{IsWithin, sum_of_terms}
use Rattle.bl_problem.specs.declared.problem.Row.{Row}
use Rattle.bl_problem.specs.declared.problem.Term.{Term}

-- a term over n columns: within the limits, and never zero
pub record IsTerm (n : ℕ) (t : Term) : Type 0 where
  pub column : t.column < n
  pub coefficient : IsWithin (10 ^ 15) t.coefficient
  pub nonzero : t.coefficient ≢ pos 0

-- terms over n columns, in rising order of columns
pub record AreTerms (n : ℕ) (ts : List Term) : Type 0 where
  pub each : All (IsTerm n) ts
  pub rising : AllPairs (λ s t. s.column < t.column) ts

-- the coefficient of column j, 0 where no term has it
abbrev pub coefficient_of : List Term → ℕ → ℤ
coefficient_of [] j = pos 0
coefficient_of (t ∷ ts) j = if t.column == j then t.coefficient else coefficient_of ts j

-- the ends of a row: at least one, within the limits, the low one not above the high one
abbrev pub AreEnds : Option ℤ → Option ℤ → Type 0
AreEnds None None = ⊥
AreEnds (Some low) None = IsWithin (10 ^ 24) low
AreEnds None (Some high) = IsWithin (10 ^ 24) high
AreEnds (Some low) (Some high) = IsWithin (10 ^ 24) low × IsWithin (10 ^ 24) high × (low ≤ℤ high)

-- the sum is at least the low end, where there is one
abbrev pub MeetsLow : Option ℤ → ℤ → Type 0
MeetsLow None s = Unit {0}
MeetsLow (Some low) s = low ≤ℤ s

-- the sum is at most the high end, where there is one
abbrev pub MeetsHigh : Option ℤ → ℤ → Type 0
MeetsHigh None s = Unit {0}
MeetsHigh (Some high) s = s ≤ℤ high

-- the row's sum at x lies within its ends
pub record MeetsRow (x : List ℤ) (r : Row) : Type 0 where
  pub low : MeetsLow r.low (sum_of_terms r.terms x)
  pub high : MeetsHigh r.high (sum_of_terms r.terms x)
