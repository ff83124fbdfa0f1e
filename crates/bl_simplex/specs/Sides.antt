-- What a proposal says of the sides of columns.
use Rattle.std.specs.Prelude.{◌≡◌, ℕ, ◌<◌, ◌^◌, ◌≤ℤ◌, pos, length, IfSome}
use Rattle.std.specs.List.{All}
use Rattle.bl_problem.specs.Sums.{IsWithin}
use Rattle.bl_simplex.specs.declared.branching.Choice.{Choice}
use Rattle.bl_simplex.specs.declared.branching.SideProposal.{SideProposal}

-- of so many columns, and so many rows and cuts
pub record IsSideProposal (columns lines : ℕ) (s : SideProposal) : Type 0 where
  pub column : s.column < columns
  pub multipliers : length s.y ≡ lines
  pub near_multipliers : All (IsWithin (2 ^ 40)) s.y
  pub positive : pos 1 ≤ℤ s.d
  pub short : s.d ≤ℤ pos (2 ^ 20)

pub record IsChoice (columns lines : ℕ) (c : Choice) : Type 0 where
  pub branch : IfSome c.branch (λ column. column < columns)
  pub sides : All (IsSideProposal columns lines) c.sides.items
