-- What the lines of RHS, RANGES and BOUNDS give: those of the first set that is named, and those
-- that name none.
use Rattle.std.specs.Prelude.{◌≡◌, ℕ, Bool, true, false, if◌then◌else◌, List, [], ◌∷◌, ◌++◌}
use Rattle.std.specs.Prelude.{filter, Option, Some, None, Result, Ok, Err, ℤ, pos}
use Rattle.std.specs.List.{flat_map}
use Rattle.bl_cards.specs.declared.kind.What.{What}
use Rattle.bl_cards.specs.declared.kind.Role.{Role}
use Rattle.bl_cards.specs.declared.kind.Act.{Act}
use Rattle.bl_cards.specs.declared.kind.Section.TheVariants.{Rhs, Ranges, Bounds}
use Rattle.bl_cards.specs.Said.{same, RowLine, Given, Card, Said}
use Rattle.bl_cards.specs.Lines.{role_of, is_passed, number_at, bound_at, act_of, has_number}
use Rattle.bl_cards.specs.Sections.{lines_in}
use Rattle.bl_cards.specs.Named.{number_or_zero}

-- ---- sets

abbrev pub set_or : Option (List ℕ) → Option (List ℕ) → Option (List ℕ)
set_or None other = other
set_or (Some first) other = Some first

-- the first set that a line names
abbrev pub first_set : (List (List ℕ) → Option (List ℕ)) → Option (List ℕ) → List (List (List ℕ))
    → Option (List ℕ)
first_set set_in now [] = now
first_set set_in now (words ∷ lines) = first_set set_in (set_or now (set_in words)) lines

-- a line names the first set, or none
abbrev pub is_of : Option (List ℕ) → Option (List ℕ) → Bool
is_of first None = true
is_of None (Some name) = true
is_of (Some first) (Some name) = same name first

abbrev pub of_first_set : (List (List ℕ) → Option (List ℕ)) → List (List (List ℕ))
    → List (List (List ℕ))
of_first_set set_in lines = filter (λ words. is_of (first_set set_in None lines) (set_in words))
    lines

-- ---- RHS and RANGES

abbrev pub set_in_pairs : List (List ℕ) → Option (List ℕ)
set_in_pairs (set ∷ row ∷ word ∷ []) = Some set
set_in_pairs (set ∷ row ∷ word ∷ row2 ∷ word2 ∷ []) = Some set
set_in_pairs words = None

abbrev pub given_on : Bool → Option Role → List ℕ → List ℕ → List Given
given_on with_objective None row word = []
given_on with_objective (Some role) row word = if is_passed with_objective role then []
    else record { row = row; number = number_or_zero (number_at word) } ∷ []

-- one or two pairs of a row and a number
abbrev pub pairs_on : Bool → List RowLine → List (List ℕ) → List Given
pairs_on o rows (row ∷ word ∷ []) = given_on o (role_of rows row) row word
pairs_on o rows (set ∷ row ∷ word ∷ []) = given_on o (role_of rows row) row word
pairs_on o rows (row ∷ word ∷ row2 ∷ word2 ∷ []) = given_on o (role_of rows row) row word
    ++ given_on o (role_of rows row2) row2 word2
pairs_on o rows (set ∷ row ∷ word ∷ row2 ∷ word2 ∷ []) = given_on o (role_of rows row) row word
    ++ given_on o (role_of rows row2) row2 word2
pairs_on o rows words = []

-- ---- BOUNDS

abbrev pub bound_or_zero : Result ℤ What → ℤ
bound_or_zero (Ok n) = n
bound_or_zero (Err w) = pos 0

-- what follows the kind of a card
abbrev pub set_behind : Bool → List (List ℕ) → Option (List ℕ)
set_behind true (set ∷ column ∷ word ∷ []) = Some set
set_behind false (set ∷ column ∷ []) = Some set
set_behind false (set ∷ column ∷ unread ∷ []) = Some set
set_behind numbered words = None

abbrev pub card : Act → List ℕ → ℤ → List Card
card act column number = record { column = column; act = act; number = number } ∷ []

abbrev pub card_behind : Act → Bool → List (List ℕ) → List Card
card_behind act true (column ∷ word ∷ []) = card act column (bound_or_zero (bound_at word))
card_behind act true (set ∷ column ∷ word ∷ []) = card act column (bound_or_zero (bound_at word))
card_behind act false (column ∷ []) = card act column (pos 0)
card_behind act false (set ∷ column ∷ []) = card act column (pos 0)
card_behind act false (set ∷ column ∷ unread ∷ []) = card act column (pos 0)
card_behind act numbered words = []

abbrev pub set_by : Option Act → List (List ℕ) → Option (List ℕ)
set_by None words = None
set_by (Some act) words = set_behind (has_number act) words

abbrev pub card_by : Option Act → List (List ℕ) → List Card
card_by None words = []
card_by (Some act) words = card_behind act (has_number act) words

abbrev pub set_in_card : List (List ℕ) → Option (List ℕ)
set_in_card [] = None
set_in_card (kind ∷ words) = set_by (act_of kind) words

abbrev pub cards_on : List (List ℕ) → List Card
cards_on [] = []
cards_on (kind ∷ words) = card_by (act_of kind) words

-- ---- the sections

pub record AreGivenByLines (lines : List (List ℕ)) (s : Said) : Type 0 where
  pub rhs : s.rhs.given ≡ flat_map (pairs_on false s.rows)
      (of_first_set set_in_pairs (lines_in Rhs lines))
  pub ranges : s.ranges.given ≡ flat_map (pairs_on true s.rows)
      (of_first_set set_in_pairs (lines_in Ranges lines))
  pub cards : s.bounds.given ≡ flat_map cards_on (of_first_set set_in_card (lines_in Bounds lines))
