-- The bounds of unit multipliers: all 0, or 0 but for a 1 or a -1 at one row.
use Rattle.std.specs.Prelude.{ℕ, zero, suc, List, length, fold, ◌≡◌, ◌≢◌, ◌<◌, ◌≤◌, ◌+◌, ◌^◌, ℤ}
use Rattle.std.specs.Prelude.{pos, negsuc, ◌+ℤ◌, ◌-ℤ◌, ◌*ℤ◌, Option, Some, None, All, option_map}
use Rattle.std.specs.Int.{int_max}
use Rattle.bl_num.specs.Exact.{at, sum_below}
use Rattle.bl_problem.specs.Sums.{IsWithin, total}
use Rattle.bl_problem.specs.Program.{IsColumn}
use Rattle.bl_problem.specs.declared.problem.Column.{Column}
use Rattle.bl_problem.specs.declared.problem.Row.{Row}
use Rattle.bl_problem.specs.declared.problem.Term.{Term}

-- at most 1000 columns, with one low and one high for each, all within the limits
pub record AreBounded (columns : List Column) (lows highs : List ℤ) : Type 0 where
  pub few : length columns ≤ 1000
  pub each : All IsColumn columns
  pub low_width : length lows ≡ length columns
  pub high_width : length highs ≡ length columns
  pub near_lows : All (IsWithin (10 ^ 9)) lows
  pub near_highs : All (IsWithin (10 ^ 9)) highs

-- multipliers for the rows and then the cuts that are 0 but for at most one, which is 1 or -1
-- and stands at a row
pub record AreUnit (rows cuts : ℕ) (y : List ℤ) : Type 0 where
  pub width : length y ≡ rows + cuts
  pub place : ℕ
  pub small : IsWithin 1 (at y place)
  pub row : at y place ≢ pos 0 → place < rows
  pub others : (k : ℕ) → k ≢ place → at y k ≡ pos 0

-- r times low where r is not negative, else r times high
abbrev pub least_of : ℤ → ℤ → ℤ → ℤ
least_of (pos r) low high = pos r *ℤ low
least_of (negsuc r) low high = negsuc r *ℤ high

-- the least part of column j at the reduced cost r
abbrev pub least_at : List ℤ → List ℤ → ℕ → ℤ → ℤ
least_at lows highs j r = least_of r (at lows j) (at highs j)

-- what zero multipliers give: the offset and the columns' least parts
abbrev pub box_bound : ℤ → List ℤ → List ℤ → List ℤ → ℤ
box_bound offset costs lows highs =
    offset +ℤ sum_below (length costs) (λ j. least_at lows highs j (at costs j))

-- by how much the multiplier y at coefficient a moves the least part of column j
abbrev pub moved_by : List ℤ → List ℤ → List ℤ → ℤ → ℕ → ℤ → ℤ
moved_by costs lows highs y j a = least_at lows highs j (at costs j -ℤ y *ℤ a) -ℤ least_at lows
    highs j (at costs j)

-- by how much it moves those of all terms
abbrev pub moved : List ℤ → List ℤ → List ℤ → ℤ → List Term → ℤ
moved costs lows highs y terms = total (λ t. moved_by costs lows highs y t.column t.coefficient)
    terms

-- the end that the multiplier asks for: the low one where it is positive
abbrev pub end_of : ℤ → Option ℤ → Option ℤ → Option ℤ
end_of (pos zero) low high = high
end_of (pos (suc n)) low high = low
end_of (negsuc n) low high = high

-- what the multiplier y at the row alone gives, over what zero multipliers give
abbrev pub row_bound : ℤ → List ℤ → List ℤ → List ℤ → ℤ → Row → Option ℤ
row_bound base costs lows highs y row =
    option_map (λ e. base +ℤ moved costs lows highs y row.terms +ℤ y *ℤ e)
    (end_of y row.low row.high)

-- the greater of a number and a bound, where that is there
abbrev pub raised : ℤ → Option ℤ → ℤ
raised best None = best
raised best (Some b) = int_max best b

-- the greatest of a number and the bounds of both unit multipliers at the row
abbrev pub raised_by : ℤ → List ℤ → List ℤ → List ℤ → ℤ → Row → ℤ
raised_by base costs lows highs best row =
    raised (raised best (row_bound base costs lows highs (pos 1) row))
    (row_bound base costs lows highs (negsuc 0) row)

-- the same over all rows
abbrev pub greatest_of : ℤ → List ℤ → List ℤ → List ℤ → List Row → ℤ
greatest_of base costs lows highs rows = fold (raised_by base costs lows highs) base rows
