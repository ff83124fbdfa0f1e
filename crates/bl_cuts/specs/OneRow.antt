-- What the candidates of one row give, by that row alone.
use Rattle.std.specs.Prelude.{◌≡◌, ◌^◌, ℕ, List, [], ◌∷◌, ◌++◌, length, ℤ, pos, ◌+ℤ◌, ◌-ℤ◌, ◌*ℤ◌}
use Rattle.std.specs.Prelude.{◌≤ℤ◌, Bool, false, int_lt, All, Option, Some, None}
use Rattle.std.specs.Int.{int_rem_euclid}
use Rattle.bl_num.specs.Exact.{at, floor_of}
use Rattle.bl_fixed.specs.Fixed.{one}
use Rattle.bl_problem.specs.Sums.{IsWithin, total}
use Rattle.bl_problem.specs.declared.problem.Term.{Term}
use Rattle.bl_cuts.specs.declared.one_row.Split.{Split}
use Rattle.bl_cuts.specs.declared.separation.Candidate.{Candidate}
use Rattle.bl_cuts.specs.Separations.{first_size}

-- the weighted coefficient, divided and rounded down
abbrev pub quotient_of : ℤ → ℤ → Term → ℤ
quotient_of weight q t = floor_of (weight *ℤ t.coefficient) q

-- the sum of quotient times entry
abbrev pub quotients_sum : ℤ → ℤ → List Term → List ℤ → ℤ
quotients_sum weight q terms x = total (λ t. quotient_of weight q t *ℤ at x t.column) terms

-- what the weighted end leaves over the lows
abbrev pub over_lows : List ℤ → List Term → ℤ → ℤ → ℤ
over_lows lows terms weight end = weight *ℤ end -ℤ quotients_sum weight (pos 1) terms lows

-- the right side of the row's cut
abbrev pub row_right : List ℤ → List Term → ℤ → ℤ → ℤ → ℤ
row_right lows terms weight over q = floor_of over q +ℤ quotients_sum weight q terms lows

-- the entries break it
abbrev pub row_breaks : List ℤ → List ℤ → List Term → ℤ → ℤ → ℤ → Bool
row_breaks lows x terms weight over q =
    int_lt (row_right lows terms weight over q *ℤ one) (quotients_sum weight q terms x)

-- each entry of x is a whole number of units and a part of one
pub record IsSplit (s : Split) (x : List ℤ) : Type 0 where
  pub exact : (j : ℕ) → at x j ≡ at s.wholes j *ℤ one +ℤ at s.parts j

-- n lows, whole numbers and parts, within the limits
pub record IsNear (n : ℕ) (s : Split) : Type 0 where
  pub lows_width : length s.lows ≡ n
  pub wholes_width : length s.wholes ≡ n
  pub parts_width : length s.parts ≡ n
  pub lows : All (IsWithin (2 ^ 40)) s.lows
  pub wholes : All (IsWithin (2 ^ 40)) s.wholes
  pub parts : All (IsWithin (2 ^ 40)) s.parts
  pub positive : All (λ part. pos 0 ≤ℤ part) s.parts

-- the first of the terms' sizes above 1 at which the cut at an end is broken, where that is there
abbrev pub first_by_over : List ℤ → List ℤ → ℕ → ℤ → Option ℤ → List Term → Option Candidate
first_by_over lows x i weight None terms = None
first_by_over lows x i weight (Some end) terms =
    first_size (λ c. row_breaks lows x terms weight (over_lows lows terms weight end) c.q) i
    weight terms

-- one more low, and one more entry, split
pub record IsPushed (s : Split) (low raw : ℤ) (t : Split) : Type 0 where
  pub lows : t.lows ≡ s.lows ++ low ∷ []
  pub wholes : t.wholes ≡ s.wholes ++ floor_of raw one ∷ []
  pub parts : t.parts ≡ s.parts ++ int_rem_euclid raw one ∷ []

-- the whole number of units of each entry on the terms' columns is at least the low
abbrev pub AreAboveLows : Split → List Term → Type 0
AreAboveLows s terms = All (λ t. at s.lows t.column ≤ℤ at s.wholes t.column) terms

-- no cut is broken whose divisor times the rounded quotient is not below this
abbrev pub IsReach : List ℤ → List ℤ → List Term → ℤ → ℤ → Type 0
IsReach lows x terms weight reach = (over q : ℤ) → pos 1 ≤ℤ q → reach ≤ℤ (q *ℤ floor_of over q)
    → row_breaks lows x terms weight over q ≡ false

abbrev pub IsOutOfReach : ℤ → ℤ → Option ℤ → Type 0
IsOutOfReach over q None = ⊥
IsOutOfReach over q (Some reach) = reach ≤ℤ (q *ℤ floor_of over q)

-- none of these divisors gives a broken cut
abbrev pub AreUnbroken : List ℤ → List ℤ → List Term → ℤ → ℤ → List ℤ → Type 0
AreUnbroken lows x terms weight over tried =
    All (λ q. row_breaks lows x terms weight over q ≡ false) tried
