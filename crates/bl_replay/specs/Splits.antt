-- Which splits have children that can be stored.
use Rattle.std.specs.Prelude.{ℕ, ◌<◌, ℤ, pos, ◌<ℤ◌, length, slice_index_or}
use Rattle.bl_problem.specs.declared.cut.Cut.{Cut}
use Rattle.bl_desc.specs.declared.desc.Desc.{Desc}
use Rattle.bl_desc.specs.declared.change.Change.{Change}
use Rattle.bl_desc.specs.Changes.{changed, Fits, IsWhole}
use Rattle.bl_journal.specs.Descriptions.{left_child, right_child}
use Rattle.bl_tree.specs.Jobs.{MayFollow}

-- the change fits, the place of the split is one in the box that it leaves, and both children
-- may be told as changes of their parent
pub record MaySplit (parent : Desc Cut) (common : Change Cut) (column : ℕ) (at : ℤ) : Type 0 where
  pub whole : IsWhole parent
  pub fits : Fits common parent
  pub column_in : column < length (changed common parent).lows
  pub below_high : at <ℤ slice_index_or (changed common parent).highs column (pos 0)
  pub left : MayFollow parent (left_child (changed common parent) column at)
  pub right : MayFollow parent (right_child (changed common parent) column at)
