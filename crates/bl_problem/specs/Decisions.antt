-- Bound decisions, and the box that they leave.
use Rattle.std.specs.Prelude.{ℕ, ℤ, pos, ◌≤ℤ◌, List, [], ◌∷◌, slice_set, slice_index_or}
use Rattle.std.specs.Prelude.{slice_get, IfSome}
use Rattle.std.specs.Int.{int_max, int_min}
use Rattle.bl_problem.specs.declared.decision.Decision.{Decision}
use Rattle.bl_problem.specs.declared.decision.Side.{Side}
use Rattle.bl_problem.specs.declared.decision.Side.TheVariants.{AtLeast, AtMost}

-- the points with entries from the lows to the highs
pub record Box : Type 0 where
  pub lows : List ℤ
  pub highs : List ℤ

abbrev pub MeetsSide : Side → ℤ → ℤ → Type 0
MeetsSide AtLeast v entry = v ≤ℤ entry
MeetsSide AtMost v entry = entry ≤ℤ v

-- the point's entry is at least, or at most, the decision's value. A column that the point lacks
-- decides nothing
abbrev pub Meets : List ℤ → Decision → Type 0
Meets x d = IfSome (slice_get x d.column) (MeetsSide d.side d.value)

abbrev pub MeetsAll : List ℤ → List Decision → Type 0
MeetsAll x [] = Unit {0}
MeetsAll x (d ∷ ds) = Meets x d × MeetsAll x ds

-- the low of column j becomes the greater of itself and v
abbrev pub raised : List ℤ → ℕ → ℤ → List ℤ
raised lows j v = slice_set lows j (int_max (slice_index_or lows j (pos 0)) v)

-- the high of column j becomes the lesser of itself and v
abbrev pub lowered : List ℤ → ℕ → ℤ → List ℤ
lowered highs j v = slice_set highs j (int_min (slice_index_or highs j (pos 0)) v)

abbrev pub narrowed_at : Side → Box → ℕ → ℤ → Box
narrowed_at AtLeast b j v = record { lows = raised b.lows j v; highs = b.highs }
narrowed_at AtMost b j v = record { lows = b.lows; highs = lowered b.highs j v }

-- the box after all decisions
abbrev pub narrowed_all : Box → List Decision → Box
narrowed_all b [] = b
narrowed_all b (d ∷ ds) = narrowed_all (narrowed_at d.side b d.column d.value) ds
