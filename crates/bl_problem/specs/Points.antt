-- The points of an integer program: which are feasible, and their values.
use Rattle.std.specs.Prelude.{ℕ, suc, ◌*◌, List, [], ◌∷◌, length, ℤ, ◌+ℤ◌, ◌-ℤ◌, ◌*ℤ◌, ◌≤ℤ◌}
use Rattle.std.specs.Prelude.{neg_ℤ, All, map, int_lt, unsigned_abs, if◌then◌else◌}
use Rattle.std.specs.Int.{int_min}
use Rattle.bl_num.specs.Exact.{at, sum_below}
use Rattle.bl_problem.specs.Program.{Program}
use Rattle.bl_problem.specs.Rows.{MeetsRow}
use Rattle.bl_problem.specs.declared.problem.Column.{Column}
use Rattle.bl_problem.specs.declared.problem.Sense.{Sense}
use Rattle.bl_problem.specs.declared.problem.Sense.TheVariants.{Min, Max}

abbrev pub lows_of : List Column → List ℤ
lows_of columns = map (λ c. c.low) columns

abbrev pub highs_of : List Column → List ℤ
highs_of columns = map (λ c. c.high) columns

abbrev pub costs_of : List Column → List ℤ
costs_of columns = map (λ c. c.cost) columns

-- a box is a list of lows and a list of highs. The point has an entry for each, between the two
abbrev pub InBox : List ℤ → List ℤ → List ℤ → Type 0
InBox [] [] [] = Unit {0}
InBox (low ∷ lows) (high ∷ highs) (v ∷ x) = (low ≤ℤ v) × (v ≤ℤ high) × InBox lows highs x
InBox [] [] (v ∷ x) = ⊥
InBox [] (high ∷ highs) x = ⊥
InBox (low ∷ lows) [] x = ⊥
InBox (low ∷ lows) (high ∷ highs) [] = ⊥

-- the point lies within the columns' bounds and meets each row
pub record IsFeasible (p : Program) (x : List ℤ) : Type 0 where
  pub box : InBox (lows_of p.columns) (highs_of p.columns) x
  pub rows : All (MeetsRow x) p.rows

-- the offset and the sum of cost times entry: less is better
abbrev pub value_of : Program → List ℤ → ℤ
value_of p x = p.offset +ℤ sum_below (length p.columns) (λ j. at (costs_of p.columns) j *ℤ at x j)

-- a number in the sense of the file: negated where the objective is maximised
abbrev pub in_sense : Sense → ℤ → ℤ
in_sense Min v = v
in_sense Max v = neg_ℤ v

-- a value or a bound as it is shown
abbrev pub shown_of : Program → ℤ → ℤ
shown_of p v = in_sense p.sense v

-- the problem's own bounds
abbrev pub own_lows : Program → List ℤ
own_lows p = lows_of p.columns

abbrev pub own_highs : Program → List ℤ
own_highs p = highs_of p.columns

-- the bound that a box alone gives: the offset, and for each column the lesser of cost times low
-- and cost times high
abbrev pub trivial_bound_of : Program → List ℤ → List ℤ → ℤ
trivial_bound_of p lows highs =
    p.offset +ℤ sum_below (length p.columns)
    (λ j. int_min (at (costs_of p.columns) j *ℤ at lows j)
    (at (costs_of p.columns) j *ℤ at highs j))

-- how many whole numbers are from low to high
abbrev pub width_of : ℤ → ℤ → ℕ
width_of low high = if int_lt high low then 0 else suc (unsigned_abs (high -ℤ low))

-- how many points a box has
abbrev pub points_in : List ℤ → List ℤ → ℕ
points_in [] highs = 1
points_in (low ∷ lows) [] = 1
points_in (low ∷ lows) (high ∷ highs) = width_of low high * points_in lows highs
