-- The greedy cover of a row at a point, and the first that the point breaks.
use Rattle.std.specs.Prelude.{◌≡◌, ◌<◌, ◌^◌, ℕ, suc, List, [], ◌∷◌, length, map, take, ℤ, pos}
use Rattle.std.specs.Prelude.{◌-ℤ◌, ◌*ℤ◌, ◌≤ℤ◌, Bool, ◌&&◌, ◌||◌, nat_lt, int_lt, Option, Some}
use Rattle.std.specs.Prelude.{None, option_map, if◌then◌else◌, slice_index_or}
use Rattle.std.specs.List.{filter}
use Rattle.std.specs.List.Sorted.{IsPermutation, IsSortedBy, IsStrictlyIncreasing}
use Rattle.std.specs.Ordering.{int_eq}
use Rattle.bl_fixed.specs.Fixed.{one}
use Rattle.bl_fixed.specs.declared.Fixed.{Fixed}
use Rattle.bl_problem.specs.Sums.{IsWithin, total}
use Rattle.bl_problem.specs.Program.{Program}
use Rattle.bl_problem.specs.declared.problem.Column.{Column}
use Rattle.bl_problem.specs.declared.problem.Row.{Row}
use Rattle.bl_problem.specs.declared.problem.Term.{Term}
use Rattle.bl_cover.specs.Covers.{is_binary, least_sum, row_at}
use Rattle.bl_cover.specs.declared.greedy.Candidate.{Candidate}
use Rattle.bl_cover.specs.declared.separator.Try.{Try}
use Rattle.bl_cover.specs.declared.separator.Try.TheVariants.{Weights, Cover}

-- the coefficient is positive, and the column has the bounds 0 and 1
abbrev pub may_cover : List Column → Term → Bool
may_cover columns t = int_lt (pos 0) t.coefficient && is_binary columns t.column

-- the point's entry of column j, in units of 2^-40
abbrev pub raw_at : List Fixed → ℕ → ℤ
raw_at point j = (slice_index_or point j (record { raw = pos 0 })).raw

abbrev pub candidate_of : List Fixed → Term → Candidate
candidate_of point t = record {
  column = t.column;
  coefficient = t.coefficient;
  entry =
      raw_at point t.column;
}

abbrev pub listed : List Column → List Fixed → Term → List Candidate
listed columns point t = if may_cover columns t then candidate_of point t ∷ [] else []

-- the columns that may stand in a cover, with their coefficients and entries
abbrev pub candidates : List Column → List Fixed → List Term → List Candidate
candidates columns point terms = map (candidate_of point) (filter (may_cover columns) terms)

abbrev pub column_of : Candidate → ℕ
column_of c = c.column

-- the greater entry comes first, and of equal entries the lesser column
abbrev pub comes_before : Candidate → Candidate → Bool
comes_before a b = int_lt b.entry a.entry || (int_eq a.entry b.entry && nat_lt a.column b.column)

-- the same candidates in that order
pub record IsOrderOf (listed order : List Candidate) : Type 0 where
  pub same : IsPermutation listed order
  pub sorted : IsSortedBy comes_before order

-- how many are taken one by one until their coefficients are above the room, if ever
abbrev pub cover_size : ℤ → List Candidate → Option ℕ
cover_size room [] = if int_lt room (pos 0) then Some 0 else None
cover_size room (c ∷ order) = if int_lt room (pos 0) then Some 0
    else option_map (λ k. suc k) (cover_size (room -ℤ c.coefficient) order)

-- the sum of the entries is above their number less 1
abbrev pub is_broken : List Candidate → Bool
is_broken taken = int_lt ((pos (length taken) -ℤ pos 1) *ℤ one) (total (λ c. c.entry) taken)

abbrev pub broken_by : List Candidate → Option ℕ → Option ℕ
broken_by order None = None
broken_by order (Some k) = if is_broken (take k order) then Some k else None

-- how many are taken, where the point breaks their cover
abbrev pub broken_size : Option ℤ → List Candidate → Option ℕ
broken_size None order = None
broken_size (Some room) order = broken_by order (cover_size room order)

-- what the row's coefficients may take above its least sum
abbrev pub room_of : List Column → Row → Option ℤ
room_of columns row = option_map (λ u. u -ℤ least_sum columns row.terms) row.high

-- the columns that the greedy order takes at the row, in rising order, where the point breaks
-- their cover
pub record IsGreedyCover (columns : List Column) (point : List Fixed) (row : Row)
    (cover : List ℕ) : Type 0 where
  pub order : List Candidate
  pub is_order : IsOrderOf (candidates columns point row.terms) order
  pub size : ℕ
  pub is_size : broken_size (room_of columns row) order ≡ Some size
  pub same : IsPermutation (map column_of (take size order)) cover
  pub rising : IsStrictlyIncreasing cover

-- the row has no high end, or all its candidates together are within the room, or the point
-- meets their cover
pub record HasNoGreedyCover (columns : List Column) (point : List Fixed) (row : Row) : Type 0 where
  pub order : List Candidate
  pub is_order : IsOrderOf (candidates columns point row.terms) order
  pub none : broken_size (room_of columns row) order ≡ None

abbrev pub IsCoverOf : List Column → List Fixed → Row → Option (List ℕ) → Type 0
IsCoverOf columns point row None = HasNoGreedyCover columns point row
IsCoverOf columns point row (Some cover) = IsGreedyCover columns point row cover

-- the greedy cover of the first row that has one that the point breaks, or None where there is
-- no such row
abbrev pub IsFirstCover : Program → List Fixed → Option Try → Type 0
IsFirstCover p point None = (k : ℕ) → k < length p.rows
    → HasNoGreedyCover p.columns point (row_at p.rows k)
IsFirstCover p point (Some (Weights pick)) = ⊥
IsFirstCover p point (Some (Cover i columns)) = (i < length p.rows)
    × IsGreedyCover p.columns point (row_at p.rows i) columns
    × ((k : ℕ) → k < i → HasNoGreedyCover p.columns point (row_at p.rows k))

-- a candidate within the limits
pub record IsCandidate (c : Candidate) : Type 0 where
  pub positive : pos 1 ≤ℤ c.coefficient
  pub small : IsWithin (10 ^ 15) c.coefficient
  pub near : IsWithin (2 ^ 70) c.entry
