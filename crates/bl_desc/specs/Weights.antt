-- How many entries a description, a change and a piece have.
use Rattle.std.specs.Prelude.{◌≡◌, ℕ, ◌+◌, ◌<◌, ◌≤◌, ◌^◌, length}
use Rattle.bl_desc.specs.declared.desc.Desc.{Desc}
use Rattle.bl_desc.specs.declared.change.Change.{Change}
use Rattle.bl_desc.specs.declared.desc.Piece.{Piece}
use Rattle.bl_desc.specs.declared.desc.Piece.TheVariants.{Explicit, Relative}
use Rattle.bl_desc.specs.Changes.{changed}

abbrev pub desc_weight_of : {C : Type 0} → Desc C → ℕ
desc_weight_of d = length d.lows + length d.highs + length d.cuts + length d.column_status
    + length d.row_status + length d.cut_status

abbrev pub change_weight_of : {C : Type 0} → Change C → ℕ
change_weight_of c =
    length c.lows + length c.highs + length c.cuts.dropped + length c.cuts.added
    + length c.columns + length c.rows + length c.fresh

-- the number of entries of all lists of a piece
abbrev pub weight_of : {C : Type 0} → Piece C → ℕ
weight_of (Explicit d) = desc_weight_of d
weight_of (Relative c) = change_weight_of c

-- no other change with the same effect has fewer entries
abbrev pub IsFewest : {C : Type 0} → Change C → Desc C → Desc C → Type 0
IsFewest {C} c p d = (other : Change C) → changed other p ≡ d → change_weight_of c
    ≤ change_weight_of other

pub record DescHasShortLists {C : Type 0} (d : Desc C) : Type 0 where
  pub lows : length d.lows < 2 ^ 32
  pub highs : length d.highs < 2 ^ 32
  pub cuts : length d.cuts < 2 ^ 32
  pub columns : length d.column_status < 2 ^ 32
  pub rows : length d.row_status < 2 ^ 32
  pub cut_status : length d.cut_status < 2 ^ 32

pub record ChangeHasShortLists {C : Type 0} (c : Change C) : Type 0 where
  pub lows : length c.lows < 2 ^ 32
  pub highs : length c.highs < 2 ^ 32
  pub dropped : length c.cuts.dropped < 2 ^ 32
  pub added : length c.cuts.added < 2 ^ 32
  pub columns : length c.columns < 2 ^ 32
  pub rows : length c.rows < 2 ^ 32
  pub fresh : length c.fresh < 2 ^ 32

-- each list of the piece is shorter than 2^32
abbrev pub HasShortLists : {C : Type 0} → Piece C → Type 0
HasShortLists (Explicit d) = DescHasShortLists d
HasShortLists (Relative c) = ChangeHasShortLists c
