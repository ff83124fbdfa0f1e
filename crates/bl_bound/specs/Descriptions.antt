-- Descriptions that suit a problem, and the points that they leave.
use Rattle.std.specs.Prelude.{List, length, ◌≡◌, ◌≤◌, ◌^◌, ℤ, All}
use Rattle.bl_problem.specs.Sums.{IsWithin}
use Rattle.bl_problem.specs.Program.{Program}
use Rattle.bl_problem.specs.Points.{InBox, IsFeasible}
use Rattle.bl_problem.specs.Cuts.{SuitsProblem, MeetsCut}
use Rattle.bl_problem.specs.declared.cut.Cut.{Cut}
use Rattle.bl_desc.specs.declared.desc.Desc.{Desc}

-- the description has one low and one high for each column, within the limits, and at most 200
-- cuts, which suit the problem
pub record Describes (p : Program) (desc : Desc Cut) : Type 0 where
  pub lows : length desc.lows ≡ length p.columns
  pub highs : length desc.highs ≡ length p.columns
  pub near_lows : All (IsWithin (10 ^ 9)) desc.lows
  pub near_highs : All (IsWithin (10 ^ 9)) desc.highs
  pub few_cuts : length desc.cuts ≤ 200
  pub cuts : All (SuitsProblem p) desc.cuts

-- a feasible point of the description's box that meets its cuts
pub record IsLeft (p : Program) (desc : Desc Cut) (x : List ℤ) : Type 0 where
  pub feasible : IsFeasible p x
  pub box : InBox desc.lows desc.highs x
  pub cuts : All (MeetsCut x) desc.cuts
