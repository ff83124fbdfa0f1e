-- The problem of a number.
use Rattle.std.specs.Prelude.{◌+◌, ◌*◌, ◌/◌, ◌%◌, ◌==◌, ℕ, zero, suc, not, List, [], ◌∷◌, map}
use Rattle.std.specs.Prelude.{filter, codes, Some, None, pos, neg_ℤ, sum_by}
use Rattle.std.specs.List.{range_with_len}
use Rattle.bl_problem.specs.declared.problem.Term.{Term}
use Rattle.bl_problem.specs.declared.problem.Column.{Column}
use Rattle.bl_problem.specs.declared.problem.Row.{Row}
use Rattle.bl_problem.specs.declared.problem.Sense.TheVariants.{Min}
use Rattle.bl_problem.specs.Program.{Program}

-- the state after this one
abbrev pub next : ℕ → ℕ
next s = (1103515245 * s + 12345) % 2147483648

-- the state after k draws
abbrev pub state : ℕ → ℕ → ℕ
state start zero = start
state start (suc k) = next (state start k)

-- the k-th draw, counted from 1, of a number below n
abbrev pub draw : ℕ → ℕ → ℕ → ℕ
draw start k n = state start k / 65536 % n

-- a letter and four digits
abbrev pub numbered : ℕ → ℕ → List ℕ
numbered letter n = letter ∷ (48 + n / 1000 % 10) ∷ (48 + n / 100 % 10) ∷ (48 + n / 10 % 10)
    ∷ (48 + n % 10) ∷ []

-- column j: its cost is the negative of a number from 1 to 100
abbrev pub column : ℕ → ℕ → Column
column start j = record {
  name = numbered 67 (j + 1);
  low = pos 0;
  high = pos 1;
  cost =
      neg_ℤ (pos (1 + draw start (j + 1) 100));
}

-- ---- rows, each drawn from the state s before it

-- the coefficient of column j, a digit
abbrev pub coefficient : ℕ → ℕ → ℕ
coefficient s j = draw s (j + 1) 10

abbrev pub term : ℕ → ℕ → Term
term s j = record { column = j; coefficient = pos (coefficient s j) }

-- the columns that the row has, of the first n
abbrev pub row_columns : ℕ → ℕ → List ℕ
row_columns s n = filter (λ j. not (coefficient s j == 0)) (range_with_len 0 n)

-- a zero makes no term
abbrev pub row_terms : ℕ → ℕ → List Term
row_terms s n = map (term s) (row_columns s n)

abbrev pub row_sum : ℕ → ℕ → ℕ
row_sum s n = sum_by (coefficient s) (range_with_len 0 n)

-- row i over n columns: at most half the sum of its coefficients
abbrev pub row_drawn : ℕ → ℕ → ℕ → Row
row_drawn s n i = record {
  name = numbered 82 (i + 1);
  terms = row_terms s n;
  low = None;
  high =
      Some (pos (row_sum s n / 2));
}

-- row i of those that are drawn one after another from the state s
abbrev pub row_after : ℕ → ℕ → ℕ → Row
row_after s n i = row_drawn (state s (i * n)) n i

-- first all costs are drawn, and then the rows
abbrev pub made : ℕ → ℕ → ℕ → Program
made start columns rows = record {
  columns = map (column start) (range_with_len 0 columns);
  rows = map (row_after (state start columns) columns) (range_with_len 0 rows);
  objective = codes "COST";
  scale = 0;
  offset = pos 0;
  sense = Min;
}
