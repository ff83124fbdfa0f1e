-- Cursors that go through the terms of the rows, column by column.
use Rattle.std.specs.Prelude.{◌≡◌, ◌<◌, ◌≤◌, ℕ, List, All, AllPairs, drop, get_or, length}
use Rattle.bl_problem.specs.declared.problem.Term.{Term}
use Rattle.bl_problem.specs.declared.problem.Row.{Row}
use Rattle.bl_problem.specs.Program.{Program}
use Rattle.bl_problem.specs.Rows.{coefficient_of}

-- from the cursor on stand the terms of column j and of those behind it, in order; no column
-- before has more than one
pub record IsAt (terms : List Term) (cursor j : ℕ) : Type 0 where
  pub few : cursor ≤ j
  pub left : (i : ℕ) → j ≤ i → coefficient_of terms i ≡ coefficient_of (drop cursor terms) i
  pub ahead : All (λ t. j ≤ t.column) (drop cursor terms)
  pub rising : AllPairs (λ s t. s.column < t.column) (drop cursor terms)

-- there is a cursor for each row
pub record AreAt (p : Program) (cursors : List ℕ) (j : ℕ) : Type 0 where
  pub as_many : length cursors ≡ length p.rows
  pub each : (k : ℕ) (r : Row) → k < length p.rows
      → IsAt (get_or p.rows k r).terms (get_or cursors k 0) j
