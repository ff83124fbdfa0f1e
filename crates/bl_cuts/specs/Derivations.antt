-- Chvátal-Gomory cuts: a weighted sum of rows and cuts, divided and rounded down.
use Rattle.std.specs.Prelude.{ℕ, zero, suc, List, [], ◌∷◌, ◌++◌, length, ◌^◌, ℤ, pos, negsuc}
use Rattle.std.specs.Prelude.{◌-ℤ◌, ◌*ℤ◌, Bool, true, ◌&&◌, nat_le, unsigned_abs, Option, Some}
use Rattle.std.specs.Prelude.{None, option_map, unwrap_or, is_some}
use Rattle.bl_num.specs.Exact.{at, floor_of}
use Rattle.bl_num.specs.Checked.{i128_of, checked_add, checked_mul, checked_sum}
use Rattle.bl_problem.specs.Rows.{coefficient_of}
use Rattle.bl_problem.specs.declared.problem.Term.{Term}
use Rattle.bl_bound.specs.Lines.{Line, line_at}

-- what line i gives to column j: the weight times the coefficient
abbrev pub given : List Line → List ℤ → ℕ → ℕ → Option ℤ
given lines w j i = Some (at w i *ℤ coefficient_of (line_at lines i).terms j)

-- the weighted sum of the coefficients of column j, in order over the lines
abbrev pub weighted_sum : List Line → List ℤ → ℕ → Option ℤ
weighted_sum lines w j = checked_sum (Some (pos 0)) (length lines) (given lines w j)

-- the end that a weight points at: the high one where it is positive, the low one where it is
-- negative
abbrev pub pointed_end : ℤ → Line → Option ℤ
pointed_end (pos zero) line = Some (pos 0)
pointed_end (pos (suc n)) line = line.high
pointed_end (negsuc n) line = line.low

-- each weight points at an end that is there
abbrev pub points_at_ends : ℕ → List Line → List ℤ → Bool
points_at_ends zero lines w = true
points_at_ends (suc n) lines w = points_at_ends n lines w
    && is_some (pointed_end (at w n) (line_at lines n))

-- the weight times the end that it points at
abbrev pub end_value : List Line → List ℤ → ℕ → Option ℤ
end_value lines w i = checked_mul (Some (at w i)) (pointed_end (at w i) (line_at lines i))

-- the weighted sum of the ends
abbrev pub ends_sum : List Line → List ℤ → Option ℤ
ends_sum lines w = checked_sum (Some (pos 0)) (length lines) (end_value lines w)

-- the quotient rounded down
abbrev pub floored : Option ℤ → ℤ → Option ℤ
floored a q = option_map (λ z. floor_of z q) a

abbrev pub checked_sub : Option ℤ → Option ℤ → Option ℤ
checked_sub None b = None
checked_sub (Some a) None = None
checked_sub (Some a) (Some b) = i128_of (a -ℤ b)

-- the sum over the columns of each number times the column's low
abbrev pub at_lows : ℕ → (ℕ → Option ℤ) → List ℤ → Option ℤ
at_lows n f lows = checked_sum (Some (pos 0)) n (λ j. checked_mul (f j) (Some (at lows j)))

-- the right side: what the weighted ends leave over the lows, divided and rounded down, and
-- moved back by the lows
abbrev pub right_of : ℕ → (ℕ → Option ℤ) → Option ℤ → List ℤ → ℤ → Option ℤ
right_of n a ends lows q = checked_add (floored (checked_sub ends (at_lows n a lows)) q)
    (at_lows n (λ j. floored (a j) q) lows)

-- the coefficient of column j, where its weighted sum is there
abbrev pub rounded : (ℕ → Option ℤ) → ℤ → ℕ → ℤ
rounded a q j = unwrap_or (floored (a j) q) (pos 0)

-- a term, where the coefficient is not zero
abbrev pub term_of : ℕ → ℤ → List Term
term_of j (pos zero) = []
term_of j (pos (suc n)) = record { column = j; coefficient = pos (suc n) } ∷ []
term_of j (negsuc n) = record { column = j; coefficient = negsuc n } ∷ []

-- the terms of the first n columns
abbrev pub terms_below : ℕ → (ℕ → ℤ) → List Term
terms_below zero f = []
terms_below (suc n) f = terms_below n f ++ term_of n (f n)

-- the coefficients of the first n columns are within the limit
abbrev pub are_small : ℕ → (ℕ → ℤ) → Bool
are_small zero f = true
are_small (suc n) f = are_small n f && nat_le (unsigned_abs (f n)) (10 ^ 15)
