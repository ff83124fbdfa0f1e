-- Diving: the bounds are tightened, the first column of more than one value takes its low, and
-- so on.
use Rattle.std.specs.Prelude.{ℕ, zero, suc, ◌+◌, ◌≡◌, List, length, ℤ, Option, Some, None, int_lt}
use Rattle.std.specs.Prelude.{if◌then◌else◌, slice_set}
use Rattle.std.specs.Option.{option_or}
use Rattle.bl_num.specs.Exact.{at}
use Rattle.bl_problem.specs.Program.{Program}
use Rattle.bl_problem.specs.Decisions.{Box, narrowed_at, narrowed_all}
use Rattle.bl_problem.specs.declared.cut.Cut.{Cut}
use Rattle.bl_problem.specs.declared.decision.Decision.{Decision}
use Rattle.bl_desc.specs.declared.desc.Desc.{Desc}
use Rattle.bl_bound.specs.Descriptions.{Describes}
use Rattle.bl_prop.specs.declared.tightening.Tightened.{Tightened}
use Rattle.bl_prop.specs.declared.tightening.Tightened.TheVariants.{Empty, Changed, Same}
use Rattle.bl_prop.specs.Answers.{tightened_of}
use Rattle.bl_heur.specs.Found.{IsFound, IsTestOf}

abbrev pub box_of : Desc Cut → Box
box_of d = record { lows = d.lows; highs = d.highs }

-- the description with another box
abbrev pub with_box : Desc Cut → Box → Desc Cut
with_box d b = record {
  lows = b.lows;
  highs = b.highs;
  cuts = d.cuts;
  column_status =
      d.column_status;
  row_status = d.row_status;
  cut_status = d.cut_status;
}

-- the description after a decision, and after all of some
abbrev pub narrowed_by : Desc Cut → Decision → Desc Cut
narrowed_by d e = with_box d (narrowed_at e.side (box_of d) e.column e.value)

abbrev pub narrowed : Desc Cut → List Decision → Desc Cut
narrowed d es = with_box d (narrowed_all (box_of d) es)

-- what a pass leaves to the next one: nothing where it shows that there is no point; and where
-- it changes nothing there is no next one
abbrev pub after_pass : Tightened → Desc Cut → (Desc Cut → Option (Desc Cut)) → Option (Desc Cut)
after_pass (Empty i) d next = None
after_pass (Changed es) d next = next (narrowed d es)
after_pass Same d next = Some d

-- the description after passes until one changes nothing, but at most n. None where one shows
-- that there is no point
unfoldable pub propagated : ℕ → Program → Desc Cut → Option (Desc Cut)
propagated zero p d = Some d
propagated (suc n) p d = after_pass (tightened_of p d) d (propagated n p)

-- the first of the first n columns that has more than one value
abbrev pub first_free : ℕ → List ℤ → List ℤ → Option ℕ
first_free zero lows highs = None
first_free (suc n) lows highs = option_or (first_free n lows highs)
    (if int_lt (at lows n) (at highs n) then Some n else None)

-- column j takes its low
abbrev pub at_low : Desc Cut → ℕ → Desc Cut
at_low d j = with_box d (record { lows = d.lows; highs = slice_set d.highs j (at d.lows j) })

-- the point of the lows where no column is free, else the dive goes on
abbrev pub after_choice : Option ℕ → Desc Cut → (Desc Cut → Option (List ℤ)) → Option (List ℤ)
after_choice None d next = Some d.lows
after_choice (Some j) d next = next (at_low d j)

-- no point where the passes show that there is none
abbrev pub after_passes : Option (Desc Cut) → (Desc Cut → Option (List ℤ)) → Option (List ℤ)
after_passes None next = None
after_passes (Some d) next = after_choice (first_free (length d.lows) d.lows d.highs) d next

-- the point at which a dive of at most n turns ends
unfoldable pub dived : ℕ → Program → Desc Cut → Option (List ℤ)
dived zero p d = None
dived (suc n) p d = after_passes (propagated 20 p d) (dived n p)

-- the point at which a dive ends: each turn but the last fixes a column
abbrev pub dive_of : Program → Desc Cut → Option (List ℤ)
dive_of p d = dived (length p.columns + 1) p d

-- that point was tested, where there is one: it is answered exactly where it is feasible and in
-- the description's box
abbrev pub IsTestIn : Program → Desc Cut → Option (List ℤ) → Option (List ℤ) → Type 0
IsTestIn p d None o = o ≡ None
IsTestIn p d (Some x) o = IsTestOf (IsFound p d) x o

-- more turns change nothing: a dive always ends by itself
abbrev pub DivesEnd : Type 0
DivesEnd = (p : Program) (d : Desc Cut) (more : ℕ) → Describes p d
    → dived (length p.columns + 1 + more) p d ≡ dive_of p d
