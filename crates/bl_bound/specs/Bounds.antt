-- The bound that multipliers give: the exact sum, each product and partial sum within `i128`.
use Rattle.std.specs.Prelude.{ℕ, zero, suc, ◌≡◌, ◌<◌, List, length, ℤ, pos, negsuc, ◌*ℤ◌, neg_ℤ}
use Rattle.std.specs.Prelude.{Option, Some, None, option_map, slice_index_or}
use Rattle.bl_num.specs.Exact.{at, ceil_of}
use Rattle.bl_num.specs.Checked.{i128_of, checked_mul, checked_sum}
use Rattle.bl_problem.specs.Rows.{coefficient_of}
use Rattle.bl_problem.specs.Program.{Program}
use Rattle.bl_problem.specs.Points.{costs_of}
use Rattle.bl_problem.specs.declared.cut.Cut.{Cut}
use Rattle.bl_desc.specs.declared.desc.Desc.{Desc}
use Rattle.bl_bound.specs.Lines.{Line, line_at, lines_of}

-- what line i takes from column j: the multiplier times the coefficient
abbrev pub taken : List Line → List ℤ → ℕ → ℕ → Option ℤ
taken lines y j i = Some (neg_ℤ (at y i *ℤ coefficient_of (line_at lines i).terms j))

-- the reduced cost of column j: its cost, less, in order over the lines, the multiplier times
-- the coefficient
abbrev pub reduced_cost : ℤ → List Line → List ℤ → ℕ → Option ℤ
reduced_cost cost lines y j = checked_sum (i128_of cost) (length lines) (taken lines y j)

-- r times low where r is not negative, else r times high
abbrev pub column_part : Option ℤ → ℤ → ℤ → Option ℤ
column_part None low high = None
column_part (Some (pos r)) low high = i128_of (pos r *ℤ low)
column_part (Some (negsuc r)) low high = i128_of (negsuc r *ℤ high)

-- the multiplier times the low end where it is positive, times the high end where it is
-- negative: None where that end is missing
abbrev pub line_part : ℤ → Line → Option ℤ
line_part (pos zero) line = Some (pos 0)
line_part (pos (suc n)) line = checked_mul (Some (pos (suc n))) line.low
line_part (negsuc n) line = checked_mul (Some (negsuc n)) line.high

-- column j's part, at the cost counted d times
abbrev pub column_value : List ℤ → List ℤ → List ℤ → List Line → List ℤ → ℤ → ℕ → Option ℤ
column_value costs lows highs lines y d j =
    column_part (reduced_cost (d *ℤ at costs j) lines y j) (at lows j) (at highs j)

-- line i's part
abbrev pub line_value : List Line → List ℤ → ℕ → Option ℤ
line_value lines y i = line_part (at y i) (line_at lines i)

-- d times the offset, then the columns' parts, then the lines' parts
abbrev pub bound_sum : ℤ → List ℤ → List ℤ → List ℤ → List Line → List ℤ → ℤ → Option ℤ
bound_sum offset costs lows highs lines y d =
    checked_sum
    (checked_sum (i128_of (d *ℤ offset)) (length costs) (column_value costs lows highs lines y d))
    (length lines) (line_value lines y)

-- the exact sum, with the costs and the offset counted d times: with d 0 they are left out
abbrev pub multiplier_sum_of : Program → Desc Cut → List ℤ → ℤ → Option ℤ
multiplier_sum_of p desc y d = bound_sum p.offset (costs_of p.columns) desc.lows desc.highs
    (lines_of p.rows desc.cuts) y d

-- that sum divided by d and rounded up
abbrev pub bound_of : Program → Desc Cut → List ℤ → ℤ → Option ℤ
bound_of p desc y d = option_map (λ s. ceil_of s d) (multiplier_sum_of p desc y d)

-- a column's sum among those of all columns
abbrev pub sum_at : List (Option ℤ) → ℕ → Option ℤ
sum_at sums j = slice_index_or sums j None

-- one reduced cost for each column, with the costs counted d times
pub record AreReducedCosts (p : Program) (desc : Desc Cut) (y : List ℤ) (d : ℤ)
    (costs : List (Option ℤ)) : Type 0 where
  pub width : length costs ≡ length p.columns
  pub each : (j : ℕ) → j < length p.columns → sum_at costs j
      ≡ reduced_cost (d *ℤ at (costs_of p.columns) j) (lines_of p.rows desc.cuts) y j
