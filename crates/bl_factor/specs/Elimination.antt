-- Elementary factors, and the image of a right side under a product of them.
use Rattle.std.specs.Prelude.{ℕ, zero, suc, List, [], ◌∷◌, length, slice_set, nat_eq, if◌then◌else◌}
use Rattle.std.specs.List.{swap, fold}
use Rattle.bl_fixed.specs.declared.Fixed.{Fixed}
use Rattle.bl_fixed.specs.Fixed.{saturated_difference, saturated_product, saturated_quotient}
use Rattle.bl_factor.specs.Vectors.{nought, is_nought, at, column_of}

-- It swaps the entries at `place` and `row`, and then turns `column` into the unit column of
-- `place`.
pub record Elimination : Type 0 where
  pub place : ℕ
  pub row : ℕ
  pub column : List Fixed

-- x less c times q; x itself where c is 0
unfoldable pub less_multiple : Fixed → Fixed → Fixed → Fixed
less_multiple x c q = if is_nought c then x else saturated_difference x (saturated_product c q)

-- the entry at i: at the place the quotient by the pivot, and elsewhere less the column's
-- multiple of that quotient
abbrev pub cleared_entry : Elimination → List Fixed → Fixed → ℕ → Fixed
cleared_entry e xs quotient i = if nat_eq i e.place then quotient
    else less_multiple (at xs i) (at e.column i) quotient

-- nothing changes where the entry at the place is 0
unfoldable pub cleared : Elimination → List Fixed → List Fixed
cleared e xs = if is_nought (at xs e.place) then xs
    else column_of (length xs) (cleared_entry e xs
    (saturated_quotient (at xs e.place) (at e.column e.place)))

unfoldable pub eliminated : Elimination → List Fixed → List Fixed
eliminated e xs = cleared e (swap xs e.place e.row)

-- one factor after the other
abbrev pub image_under : List Elimination → List Fixed → List Fixed
image_under steps xs = fold (λ ys e. eliminated e ys) xs steps

-- ---- the transposes

-- `rest` less the products of coefficients and entries at i, i + 1, .., i + k - 1
unfoldable pub taken_off : (ℕ → Fixed) → List Fixed → ℕ → ℕ → Fixed → Fixed
taken_off coefficients xs i zero rest = rest
taken_off coefficients xs i (suc k) rest =
    taken_off coefficients xs (suc i) k (less_multiple rest (coefficients i) (at xs i))

-- the column's entries beside its pivot
abbrev pub others_of : Elimination → ℕ → Fixed
others_of e i = if nat_eq i e.place then nought else at e.column i

-- the entry at the place, less the other products, by the pivot
abbrev pub transposed_entry : Elimination → List Fixed → Fixed
transposed_entry e xs = saturated_quotient
    (taken_off (others_of e) xs 0 (length xs) (at xs e.place)) (at e.column e.place)

unfoldable pub eliminated_transposed : Elimination → List Fixed → List Fixed
eliminated_transposed e xs = swap (slice_set xs e.place (transposed_entry e xs)) e.place e.row

-- the last factor's transpose first
abbrev pub transposed_image_under : List Elimination → List Fixed → List Fixed
transposed_image_under [] xs = xs
transposed_image_under (e ∷ es) xs = eliminated_transposed e (transposed_image_under es xs)
