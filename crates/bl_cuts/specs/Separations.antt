-- The first cut from one row that a point breaks.
use Rattle.std.specs.Prelude.{◌≡◌, ◌<◌, ◌⊎◌, ◌<ℤ◌, ℕ, zero, suc, List, [], ◌∷◌, ◌+◌, length, map}
use Rattle.std.specs.Prelude.{ℤ, pos, negsuc, ◌*ℤ◌, Bool, false, ◌&&◌, int_lt, unsigned_abs}
use Rattle.std.specs.Prelude.{Option, Some, None, option_map, Ok, Err, if◌then◌else◌}
use Rattle.std.specs.Prelude.{slice_index_or, slice_set, replicate}
use Rattle.std.specs.List.{Contains}
use Rattle.std.specs.declared.result.Result.{Result}
use Rattle.bl_fixed.specs.Fixed.{one}
use Rattle.bl_fixed.specs.declared.Fixed.{Fixed}
use Rattle.bl_problem.specs.Sums.{sum_of_terms}
use Rattle.bl_problem.specs.Program.{Program}
use Rattle.bl_problem.specs.declared.cut.Cut.{Cut}
use Rattle.bl_problem.specs.declared.problem.Row.{Row}
use Rattle.bl_problem.specs.declared.problem.Term.{Term}
use Rattle.bl_cuts.specs.declared.fault.CutFault.{CutFault}
use Rattle.bl_cuts.specs.declared.pick.Pick.{Pick}
use Rattle.bl_cuts.specs.declared.separation.Candidate.{Candidate}
use Rattle.bl_cuts.specs.Answers.{derived_of}

-- the point's entries, in units of 2^-40
abbrev pub raws_of : List Fixed → List ℤ
raws_of point = map (λ x. x.raw) point

-- the weight at place i, and 0 elsewhere
abbrev pub alone : ℕ → ℕ → ℤ → List ℤ
alone n i weight = slice_set (replicate n (pos 0)) i weight

abbrev pub pick_of : ℕ → Candidate → Pick
pick_of n c = record { weights = alone n c.row c.weight; q = c.q }

-- the cut's sum at the entries is above its right side
abbrev pub breaks : List ℤ → Result Cut CutFault → Bool
breaks x (Err e) = false
breaks x (Ok cut) = int_lt (cut.right *ℤ one) (sum_of_terms cut.terms x)

-- the candidate's cut is there, and the entries break it
abbrev pub is_broken : Program → List Cut → List ℤ → Candidate → Bool
is_broken p cuts x c =
    breaks x (derived_of p cuts (alone (length p.rows + length cuts) c.row c.weight) c.q
    (record { seat = 0; serial = 0 }))

abbrev pub candidate : ℕ → ℤ → ℤ → Candidate
candidate i weight q = record { row = i; weight = weight; q = q }

abbrev pub or_else : Option Candidate → Option Candidate → Option Candidate
or_else (Some c) other = Some c
or_else None other = other

-- the first of the terms' sizes above 1 at which the candidate is broken
abbrev pub first_size : (Candidate → Bool) → ℕ → ℤ → List Term → Option Candidate
first_size broken i weight [] = None
first_size broken i weight (t ∷ terms) =
    if int_lt (pos 1) (pos (unsigned_abs t.coefficient))
    && broken (candidate i weight (pos (unsigned_abs t.coefficient)))
    then Some (candidate i weight (pos (unsigned_abs t.coefficient)))
    else first_size broken i weight terms

-- the first at an end, where that is there
abbrev pub first_at_end : (Candidate → Bool) → ℕ → ℤ → Option ℤ → List Term → Option Candidate
first_at_end broken i weight None terms = None
first_at_end broken i weight (Some end) terms = first_size broken i weight terms

-- the first of a row: its high end comes first
abbrev pub first_in_row : (Candidate → Bool) → ℕ → Row → Option Candidate
first_in_row broken i row = or_else (first_at_end broken i (pos 1) row.high row.terms)
    (first_at_end broken i (negsuc 0) row.low row.terms)

abbrev pub row_at : List Row → ℕ → Row
row_at rows i = slice_index_or rows i (record { name = []; terms = []; low = None; high = None })

-- the first of the first n rows
abbrev pub first_in_rows : (Candidate → Bool) → List Row → ℕ → Option Candidate
first_in_rows broken rows zero = None
first_in_rows broken rows (suc n) =
    or_else (first_in_rows broken rows n) (first_in_row broken n (row_at rows n))

-- the weights and the divisor of the first candidate that is broken
abbrev pub first_broken : Program → List Cut → List Fixed → Option Pick
first_broken p cuts point =
    option_map (pick_of (length p.rows + length cuts))
    (first_in_rows (is_broken p cuts (raws_of point)) p.rows (length p.rows))

-- the weight 1 at the high end, or -1 at the low end
abbrev pub PointsAt : ℤ → ℤ → Row → Type 0
PointsAt weight end row = ((weight ≡ pos 1) × (row.high ≡ Some end))
    ⊎ ((weight ≡ negsuc 0) × (row.low ≡ Some end))

-- a weight on one row alone, at an end that is there, with the size of one of its coefficients,
-- above 1
pub record IsCandidate (p : Program) (cuts : List Cut) (pick : Pick) : Type 0 where
  pub row : ℕ
  pub below : row < length p.rows
  pub weight : ℤ
  pub end : ℤ
  pub points : PointsAt weight end (row_at p.rows row)
  pub term : Term
  pub is_term : Contains (row_at p.rows row).terms term
  pub above : pos 1 <ℤ pos (unsigned_abs term.coefficient)
  pub is : pick ≡ pick_of (length p.rows + length cuts)
      (candidate row weight (pos (unsigned_abs term.coefficient)))
