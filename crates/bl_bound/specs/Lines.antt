-- A row or a cut as one line: terms between two ends.
use Rattle.std.specs.Prelude.{ℕ, List, [], ◌++◌, map, ℤ, Option, Some, None, slice_index_or}
use Rattle.bl_problem.specs.Sums.{sum_of_terms}
use Rattle.bl_problem.specs.Rows.{MeetsLow, MeetsHigh}
use Rattle.bl_problem.specs.declared.problem.Row.{Row}
use Rattle.bl_problem.specs.declared.problem.Term.{Term}
use Rattle.bl_problem.specs.declared.cut.Cut.{Cut}
use Rattle.bl_bound.specs.declared.lines.LineRef.{LineRef}

pub record Line : Type 0 where
  pub terms : List Term
  pub low : Option ℤ
  pub high : Option ℤ

abbrev pub line_of_row : Row → Line
line_of_row row = record { terms = row.terms; low = row.low; high = row.high }

-- a cut has no low end
abbrev pub line_of_cut : Cut → Line
line_of_cut cut = record { terms = cut.terms; low = None; high = Some cut.right }

-- the rows, then the cuts
abbrev pub lines_of : List Row → List Cut → List Line
lines_of rows cuts = map line_of_row rows ++ map line_of_cut cuts

-- the line at place i
abbrev pub line_at : List Line → ℕ → Line
line_at lines i = slice_index_or lines i (record { terms = []; low = None; high = None })

-- the sum at x lies within the ends
pub record MeetsLine (x : List ℤ) (line : Line) : Type 0 where
  pub low : MeetsLow line.low (sum_of_terms line.terms x)
  pub high : MeetsHigh line.high (sum_of_terms line.terms x)

-- a borrowed line
abbrev pub line_of : LineRef → Line
line_of line = record { terms = line.terms.now; low = line.low; high = line.high }
