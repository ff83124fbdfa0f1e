-- The steps in which the columns' sums are made.
use Rattle.std.specs.Prelude.{List, ℤ, ◌*ℤ◌, Option, Some, fold, slice_set}
use Rattle.bl_num.specs.Checked.{checked_add}
use Rattle.bl_problem.specs.declared.problem.Term.{Term}
use Rattle.bl_bound.specs.Bounds.{sum_at}

-- the weight times the coefficient is added to the sum of the term's column
abbrev pub given_term : ℤ → List (Option ℤ) → Term → List (Option ℤ)
given_term w sums t = slice_set sums t.column
    (checked_add (sum_at sums t.column) (Some (w *ℤ t.coefficient)))

abbrev pub given_terms : ℤ → List Term → List (Option ℤ) → List (Option ℤ)
given_terms w terms sums = fold (given_term w) sums terms
