-- Exact sums, and sizes.
use Rattle.std.specs.Prelude.{ℕ, List, ◌≤◌, ℤ, pos, ◌+ℤ◌, ◌*ℤ◌, fold, unsigned_abs}
use Rattle.bl_num.specs.Exact.{at}
use Rattle.bl_problem.specs.declared.problem.Term.{Term}

-- the sum of f over a list, from the left
abbrev pub total : {A : Type 0} → (A → ℤ) → List A → ℤ
total f xs = fold (λ s a. s +ℤ f a) (pos 0) xs

-- the sum of coefficient times entry
abbrev pub sum_of_terms : List Term → List ℤ → ℤ
sum_of_terms terms x = total (λ t. t.coefficient *ℤ at x t.column) terms

-- z lies within m of 0
abbrev pub IsWithin : ℕ → ℤ → Type 0
IsWithin m z = unsigned_abs z ≤ m
