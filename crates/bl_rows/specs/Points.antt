-- Boxes of two columns.
use Rattle.std.specs.Prelude.{ℤ, List, [], ◌∷◌, Bool, false, int_lt, int_le, ◌&&◌, ◌||◌}

-- the box has a point
abbrev pub has_point : List ℤ → List ℤ → Bool
has_point (a ∷ b ∷ []) (c ∷ d ∷ []) = int_le a c && int_le b d
has_point lows highs = false

-- it has another one too
abbrev pub has_two : List ℤ → List ℤ → Bool
has_two (a ∷ b ∷ []) (c ∷ d ∷ []) = int_le a c && int_le b d && (int_lt a c || int_lt b d)
has_two lows highs = false
