-- The steps in which the columns' sums are made.
use Rattle.std.specs.Prelude.{ℕ, List, ℤ, pos, ◌*ℤ◌, neg_ℤ, ◌≡◌, Option, Some, fold, slice_set}
use Rattle.bl_num.specs.Exact.{at}
use Rattle.bl_num.specs.Checked.{checked_add}
use Rattle.bl_problem.specs.declared.problem.Term.{Term}
use Rattle.bl_bound.specs.Bounds.{sum_at, column_part}

-- the multiplier times the coefficient is taken from the sum of the term's column
abbrev pub taken_term : ℤ → List (Option ℤ) → Term → List (Option ℤ)
taken_term y sums t = slice_set sums t.column
    (checked_add (sum_at sums t.column) (Some (neg_ℤ (y *ℤ t.coefficient))))

abbrev pub taken_terms : ℤ → List Term → List (Option ℤ) → List (Option ℤ)
taken_terms y terms sums = fold (taken_term y) sums terms

-- an `i128`, or None: adding 0 changes nothing
pub record IsSettled (o : Option ℤ) : Type 0 where
  pub same : checked_add o (Some (pos 0)) ≡ o

-- column j's part, by its reduced cost among all
abbrev pub part_at : List (Option ℤ) → List ℤ → List ℤ → ℕ → Option ℤ
part_at costs lows highs j = column_part (sum_at costs j) (at lows j) (at highs j)
