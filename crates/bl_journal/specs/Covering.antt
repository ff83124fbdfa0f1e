-- A small covering problem, and a split of its root: what worked histories speak of.
use Rattle.std.specs.Prelude.{ℕ, ℤ, pos, ◌≤ℤ◌, List, [], ◌∷◌, Option, Some, None}
use Rattle.bl_problem.specs.Program.{Program}
use Rattle.bl_problem.specs.declared.problem.Column.{Column}
use Rattle.bl_problem.specs.declared.problem.Row.{Row}
use Rattle.bl_problem.specs.declared.problem.Sense.TheVariants.{Min}
use Rattle.bl_problem.specs.declared.cut.Cut.{Cut}
use Rattle.bl_desc.specs.declared.change.Change.{Change}
use Rattle.bl_desc.specs.declared.desc.Piece.TheVariants.{Relative}
use Rattle.bl_desc.specs.Changes.{nothing}
use Rattle.bl_journal.specs.declared.outcome.Outcome.{Outcome}
use Rattle.bl_journal.specs.declared.outcome.Next.TheVariants.{Split}
use Rattle.bl_journal.specs.declared.settings.Settings.{Settings}
use Rattle.bl_pool.specs.declared.key.Order.TheVariants.{Best}

-- a column from 0 to 10
abbrev pub column : ℕ → ℕ → Column
column name cost = record { name = name ∷ []; low = pos 0; high = pos 10; cost = pos cost }

abbrev pub row : Row
row =
    record {
      name = 82 ∷ [];
      terms =
          record { column = 0; coefficient = pos 2 }
          ∷ record { column = 1; coefficient = pos 3 } ∷ [];
      low = Some (pos 7);
      high = None;
    }

-- 2X + 3Y at least 7, at the cost 2X + 3Y
abbrev pub covering : Program
covering =
    record {
      columns = column 88 2 ∷ column 89 3 ∷ [];
      rows = row ∷ [];
      objective = 67 ∷ [];
      scale = 0;
      offset = pos 0;
      sense = Min;
    }

-- at most 100 nodes, best first, with no gap
abbrev pub with_span : ℕ → Settings
with_span n = record { nodes = 100; span = n; order = Best; gap = pos 0 }

abbrev pub high_four : Change Cut
high_four = record nothing { highs = record { place = 0; entry = pos 4 } ∷ [] }

abbrev pub low_five : Change Cut
low_five = record nothing { lows = record { place = 0; entry = pos 5 } ∷ [] }

-- the same with a gap
abbrev pub with_gap : ℤ → Settings
with_gap gap = record (with_span 8) { gap = gap }

-- a point, where one is found: X is 2 and Y is given; at Y = 1 it is optimal
abbrev pub point_if : Option ℤ → Option (List ℤ)
point_if (Some y) = Some (pos 2 ∷ y ∷ [])
point_if None = None

-- with X at 2, Y may be 1 to 10
abbrev pub IsRange : ℤ → Type 0
IsRange y = (pos 1 ≤ℤ y) × (y ≤ℤ pos 10)

-- what no better point is below
abbrev pub low_if : Option ℤ → ℤ
low_if (Some y) = pos 7
low_if None = pos 0

-- X is at most 4 or at least 5; and a point is found, or none
abbrev pub split_root : Option ℤ → Outcome
split_root found =
    record {
      found = point_if found;
      low = low_if found;
      next = Split nothing 0 (pos 4) (Relative high_four) (Relative low_five);
    }
