-- What multipliers make of a problem and a description: reduced costs, and the sum of the bound.
use Rattle.std.specs.Prelude.{List, ℤ, pos, ◌≡◌, ◌≤ℤ◌, Option, option_map}
use Rattle.bl_num.specs.Exact.{ceil_of}
use Rattle.bl_problem.specs.Program.{Program}
use Rattle.bl_problem.specs.declared.cut.Cut.{Cut}
use Rattle.bl_desc.specs.declared.desc.Desc.{Desc}
use Rattle.bl_bound.specs.Bounds.{multiplier_sum_of, AreReducedCosts}

-- each column's reduced cost and the exact sum, both over a common denominator
pub record Reduced : Type 0 where
  pub costs : List (Option ℤ)
  pub denominator : ℤ
  pub sum : Option ℤ

-- these are what the multipliers y make
pub record IsReduced (p : Program) (desc : Desc Cut) (y : List ℤ) (r : Reduced) : Type 0 where
  pub counted : pos 1 ≤ℤ r.denominator
  pub costs : AreReducedCosts p desc y r.denominator r.costs
  pub sum : r.sum ≡ multiplier_sum_of p desc y r.denominator

-- the sum divided by the denominator and rounded up
abbrev pub bound_by : Reduced → Option ℤ
bound_by r = option_map (λ s. ceil_of s r.denominator) r.sum
