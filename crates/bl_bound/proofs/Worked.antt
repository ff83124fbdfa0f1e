-- The definitions, computed: columns X and Y from 0 to 10, costs 2 and 3, the row 2X + 3Y >= 7.
use Rattle.std.proofs.Common.{◌≡◌, pos, negsuc, [], ◌∷◌, Some, None, refl}
use Rattle.bl_num.specs.Checked.{checked_sum}
use Rattle.bl_bound.specs.Lines.{Line}
use Rattle.bl_bound.specs.Bounds.{bound_sum}

pub row : Line
row = record {
  terms = record { column = 0; coefficient = pos 2 }
      ∷ record { column = 1; coefficient = pos 3 } ∷ [];
  low = Some (pos 7);
  high = None;
}

pub by_low_end : bound_sum (pos 0) (pos 2 ∷ pos 3 ∷ []) (pos 0 ∷ pos 0 ∷ [])
    (pos 10 ∷ pos 10 ∷ []) (row ∷ []) (pos 1 ∷ []) (pos 1) ≡ Some (pos 7)
unfolding checked_sum row
by_low_end = refl

pub by_missing_end : bound_sum (pos 0) (pos 2 ∷ pos 3 ∷ []) (pos 0 ∷ pos 0 ∷ [])
    (pos 10 ∷ pos 10 ∷ []) (row ∷ []) (negsuc 0 ∷ []) (pos 1) ≡ None
unfolding checked_sum row
by_missing_end = refl

pub by_box : bound_sum (pos 0) (pos 2 ∷ pos 3 ∷ []) (pos 0 ∷ pos 0 ∷ []) (pos 10 ∷ pos 10 ∷ [])
    (row ∷ []) (pos 0 ∷ []) (pos 1) ≡ Some (pos 0)
unfolding checked_sum row
by_box = refl

-- with highs 1 and 1 and no costs the sum is positive: no point is left
pub shown_empty : bound_sum (pos 0) (pos 2 ∷ pos 3 ∷ []) (pos 0 ∷ pos 0 ∷ []) (pos 1 ∷ pos 1 ∷ [])
    (row ∷ []) (pos 1 ∷ []) (pos 0) ≡ Some (pos 2)
unfolding checked_sum row
shown_empty = refl
