-- Cover cuts: columns of a row that can't all be 1.
use Rattle.std.specs.Prelude.{◌≡◌, ℕ, zero, suc, List, [], length, map, ℤ, pos, ◌-ℤ◌, ◌*ℤ◌, Bool}
use Rattle.std.specs.Prelude.{◌&&◌, nat_le, int_lt, Option, Some, None, Ok, Err, if◌then◌else◌}
use Rattle.std.specs.Prelude.{slice_index_or}
use Rattle.std.specs.Int.{int_min}
use Rattle.std.specs.Ordering.{int_eq}
use Rattle.std.specs.declared.result.Result.{Result}
use Rattle.bl_num.specs.Exact.{at}
use Rattle.bl_mods.specs.declared.mods.ItemId.{ItemId}
use Rattle.bl_problem.specs.Sums.{total}
use Rattle.bl_problem.specs.Rows.{coefficient_of}
use Rattle.bl_problem.specs.Program.{Program}
use Rattle.bl_problem.specs.Points.{lows_of, highs_of}
use Rattle.bl_problem.specs.declared.problem.Column.{Column}
use Rattle.bl_problem.specs.declared.problem.Row.{Row}
use Rattle.bl_problem.specs.declared.problem.Term.{Term}
use Rattle.bl_problem.specs.declared.cut.Cut.{Cut}
use Rattle.bl_cover.specs.declared.fault.CoverFault.{CoverFault}
use Rattle.bl_cover.specs.declared.fault.CoverFault.TheVariants as fault

-- what a term gives at least: the lesser of coefficient times low and coefficient times high
abbrev pub least_of : List Column → Term → ℤ
least_of columns t = int_min (t.coefficient *ℤ at (lows_of columns) t.column)
    (t.coefficient *ℤ at (highs_of columns) t.column)

-- what the terms give at least
abbrev pub least_sum : List Column → List Term → ℤ
least_sum columns terms = total (least_of columns) terms

-- column j has the bounds 0 and 1
abbrev pub is_binary : List Column → ℕ → Bool
is_binary columns j = int_eq (at (lows_of columns) j) (pos 0)
    && int_eq (at (highs_of columns) j) (pos 1)

-- column j has a positive coefficient, and the bounds 0 and 1
abbrev pub is_coverable : List Column → List Term → ℕ → Bool
is_coverable columns terms j = int_lt (pos 0) (coefficient_of terms j) && is_binary columns j

abbrev pub listed_at : List ℕ → ℕ → ℕ
listed_at listed k = slice_index_or listed k 0

-- the least column that may stand at place k: one above that of the place before
abbrev pub least_at : List ℕ → ℕ → ℕ
least_at listed zero = 0
least_at listed (suc k) = suc (listed_at listed k)

-- the column at place k is above the one before, and coverable
abbrev pub fits_at : List Column → List Term → List ℕ → ℕ → Bool
fits_at columns terms listed k = nat_le (least_at listed k) (listed_at listed k)
    && is_coverable columns terms (listed_at listed k)

abbrev pub earlier_or : Option ℕ → Bool → ℕ → Option ℕ
earlier_or (Some k) fits n = Some k
earlier_or None fits n = if fits then None else Some n

-- the first of the places below n whose column does not fit
abbrev pub first_misfit : List Column → List Term → List ℕ → ℕ → Option ℕ
first_misfit columns terms listed zero = None
first_misfit columns terms listed (suc n) =
    earlier_or (first_misfit columns terms listed n) (fits_at columns terms listed n) n

-- the sum of the listed columns' coefficients
abbrev pub listed_sum : List Term → List ℕ → ℤ
listed_sum terms listed = total (coefficient_of terms) listed

abbrev pub cover_term : ℕ → Term
cover_term j = record { column = j; coefficient = pos 1 }

-- at most all but one of the listed columns are 1
abbrev pub all_but_one : ItemId → List ℕ → Cut
all_but_one id listed = record {
  id = id;
  terms = map cover_term listed;
  right =
      pos (length listed) -ℤ pos 1;
}

abbrev pub by_slack : ItemId → List ℕ → ℤ → Result Cut CoverFault
by_slack id listed slack = if int_lt slack (pos 0) then Ok (all_but_one id listed)
    else Err (fault.Fits slack)

-- what the row has left below its high end with all listed columns at 1
abbrev pub slack_in : List Column → List Term → ℤ → List ℕ → ℤ
slack_in columns terms high listed = (high -ℤ least_sum columns terms) -ℤ listed_sum terms listed

abbrev pub by_misfit : Option ℕ → ℤ → Result ℤ CoverFault
by_misfit (Some k) slack = Err (fault.Column k)
by_misfit None slack = Ok slack

-- that slack, where there is a high end and each place fits
abbrev pub slack_below : List Column → List Term → Option ℤ → List ℕ → Result ℤ CoverFault
slack_below columns terms None listed = Err fault.NoEnd
slack_below columns terms (Some high) listed =
    by_misfit (first_misfit columns terms listed (length listed))
    (slack_in columns terms high listed)

abbrev pub IsSlackOf : List Column → Row → List ℕ → Result ℤ CoverFault → Type 0
IsSlackOf columns row listed result = slack_below columns row.terms row.high listed ≡ result

-- the cut, where the slack is below 0
abbrev pub cut_by_slack : ItemId → List ℕ → Result ℤ CoverFault → Result Cut CoverFault
cut_by_slack id listed (Err e) = Err e
cut_by_slack id listed (Ok slack) = by_slack id listed slack

abbrev pub row_at : List Row → ℕ → Row
row_at rows i = slice_index_or rows i (record { name = []; terms = []; low = None; high = None })

-- the cover cut of row i over the listed columns, or why there is none
abbrev pub cover_of : Program → ℕ → List ℕ → ItemId → Result Cut CoverFault
cover_of p i listed id = cut_by_slack id listed
    (slack_below p.columns (row_at p.rows i).terms (row_at p.rows i).high listed)

-- the answer is the stated one, or want of memory
abbrev pub IsOrMemory : Result Cut CoverFault → Result Cut CoverFault → Type 0
IsOrMemory (Ok cut) stated = stated ≡ Ok cut
IsOrMemory (Err fault.NoEnd) stated = stated ≡ Err fault.NoEnd
IsOrMemory (Err (fault.Column k)) stated = stated ≡ Err (fault.Column k)
IsOrMemory (Err (fault.Fits s)) stated = stated ≡ Err (fault.Fits s)
IsOrMemory (Err fault.Memory) stated = Unit {0}
