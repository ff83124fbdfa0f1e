-- Reduced-cost fixing: what the gap between a bound and a cutoff leaves of each column.
use Rattle.std.specs.Prelude.{ℕ, zero, suc, List, [], ◌∷◌, ◌++◌, length, ℤ, pos, negsuc, ◌+ℤ◌}
use Rattle.std.specs.Prelude.{◌-ℤ◌, ◌*ℤ◌, Option, Some, None, option_map, int_lt, nat_le}
use Rattle.std.specs.Prelude.{if◌then◌else◌}
use Rattle.bl_num.specs.Exact.{at, floor_of}
use Rattle.bl_num.specs.Checked.{i128_of, checked_mul}
use Rattle.bl_problem.specs.Program.{Program}
use Rattle.bl_problem.specs.Points.{costs_of}
use Rattle.bl_problem.specs.declared.cut.Cut.{Cut}
use Rattle.bl_problem.specs.declared.decision.Decision.{Decision}
use Rattle.bl_problem.specs.declared.decision.Side.TheVariants.{AtLeast, AtMost}
use Rattle.bl_desc.specs.declared.desc.Desc.{Desc}
use Rattle.bl_bound.specs.Lines.{lines_of}
use Rattle.bl_bound.specs.Bounds.{sum_at, reduced_cost, multiplier_sum_of}
use Rattle.bl_bound.specs.Reduced.{Reduced}

-- what the gap leaves of column j: its reduced cost r, where it is positive, bounds the entry
-- from above, and where it is negative from below. None where that is no tighter than the
-- column's own bound
abbrev pub decision_of : ℤ → ℕ → Option ℤ → ℤ → ℤ → Option Decision
decision_of gap j None low high = None
decision_of gap j (Some (pos zero)) low high = None
decision_of gap j (Some (pos (suc r))) low high =
    if int_lt (low +ℤ floor_of gap (pos (suc r))) high
    then Some (record {
      column = j;
      side = AtMost;
      value =
          low +ℤ floor_of gap (pos (suc r));
    }) else None
decision_of gap j (Some (negsuc r)) low high =
    if int_lt low (high -ℤ floor_of gap (pos (suc r)))
    then Some (record {
      column = j;
      side = AtLeast;
      value =
          high -ℤ floor_of gap (pos (suc r));
    }) else None

-- one more decision, where there is one and fewer than 256 stand
abbrev pub with_decision : List Decision → Option Decision → List Decision
with_decision ds None = ds
with_decision ds (Some d) = if nat_le 256 (length ds) then ds else ds ++ d ∷ []

-- the decisions on the first n columns, in order
abbrev pub decisions_below : ℕ → ℤ → (ℕ → Option ℤ) → List ℤ → List ℤ → List Decision
decisions_below zero gap costs lows highs = []
decisions_below (suc n) gap costs lows highs =
    with_decision (decisions_below n gap costs lows highs)
    (decision_of gap n (costs n) (at lows n) (at highs n))

abbrev pub checked_less : Option ℤ → ℤ → Option ℤ
checked_less None b = None
checked_less (Some a) b = i128_of (a -ℤ b)

-- how far the sum is below d times the greatest number below the cutoff. None where a number on
-- the way leaves i128
abbrev pub gap_of : ℤ → ℤ → ℤ → Option ℤ
gap_of d cutoff sum = checked_less (checked_mul (Some d) (i128_of (cutoff -ℤ pos 1))) sum

-- the decisions on n columns of those reduced costs and that sum
abbrev pub fixed_by : Option ℤ → ℤ → ℤ → ℕ → (ℕ → Option ℤ) → List ℤ → List ℤ
    → Option (List Decision)
fixed_by None d cutoff n costs lows highs = None
fixed_by (Some sum) d cutoff n costs lows highs =
    option_map (λ gap. decisions_below n gap costs lows highs) (gap_of d cutoff sum)

-- the decisions of the multipliers y over the common denominator d
abbrev pub fixed_of : Program → Desc Cut → List ℤ → ℤ → ℤ → Option (List Decision)
fixed_of p desc y d cutoff =
    fixed_by (multiplier_sum_of p desc y d) d cutoff (length p.columns)
    (λ j. reduced_cost (d *ℤ at (costs_of p.columns) j) (lines_of p.rows desc.cuts) y j)
    desc.lows desc.highs

-- the decisions of what multipliers made
abbrev pub fixed_of_reduced : Reduced → Desc Cut → ℤ → Option (List Decision)
fixed_of_reduced r desc cutoff =
    fixed_by r.sum r.denominator cutoff (length r.costs) (sum_at r.costs) desc.lows desc.highs
