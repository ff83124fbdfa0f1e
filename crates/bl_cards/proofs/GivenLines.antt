-- Numbers of rows, kept as rows and numbers.
use Rattle.std.proofs.Common.{◌≡◌, ℕ, suc, Bool, true, false, cond, ◌||◌, List, [], ◌∷◌, ◌++◌}
use Rattle.std.proofs.Common.{length, get_or, Option, Some, None, refl, sym, ap, ◌∙◌, arith}
use Rattle.std.specs.Prelude.{option_map, is_some}
use Rattle.bl_num.specs.declared.Decimal.{Decimal}
use Rattle.bl_cards.specs.Said.{same, place_of, Given}
use Rattle.bl_cards.specs.Lines.{has_given, given_for}
use Rattle.bl_cards.specs.Views.{given_lines}
use Rattle.bl_cards.proofs.Places.{place_more}

pub given_is : (rows : List (List ℕ)) (numbers : List Decimal) (row : List ℕ) → length numbers
    ≡ length rows → has_given (given_lines rows numbers) row ≡ is_some (place_of rows row)
given_is [] numbers row e = refl
given_is (r ∷ rows) [] row e = absurd (omega arith)
given_is (r ∷ rows) (z ∷ numbers) row e =
    ap (λ (b : Bool). same row r || b) (given_is rows numbers row (omega arith))
    ∙ sym (place_more (same row r) (place_of rows row))

found_by : (t : Bool) (z : Decimal) (numbers : List Decimal) (o : Option ℕ) (d : Decimal)
    → cond t (Some z) (option_map (λ i. get_or numbers i d) o)
    ≡ option_map (λ i. get_or (z ∷ numbers) i d) (cond t (Some 0) (option_map suc o))
found_by true z numbers o d = refl
found_by false z numbers None d = refl
found_by false z numbers (Some p) d = refl

-- the number that is kept at the row's place
pub found : (rows : List (List ℕ)) (numbers : List Decimal) (row : List ℕ) (d : Decimal)
    → length numbers ≡ length rows → given_for (given_lines rows numbers) row
    ≡ option_map (λ i. get_or numbers i d) (place_of rows row)
found [] numbers row d e = refl
found (r ∷ rows) [] row d e = absurd (omega arith)
found (r ∷ rows) (z ∷ numbers) row d e =
    ap (λ (o : Option Decimal). cond (same row r) (Some z) o)
    (found rows numbers row d (omega arith))
    ∙ found_by (same row r) z numbers (place_of rows row) d

none_by : (o : Option ℕ) → is_some o ≡ false → o ≡ None
none_by None e = refl
none_by (Some n) e = absurd cc

pub no_given : (rows : List (List ℕ)) (numbers : List Decimal) (row : List ℕ) → length numbers
    ≡ length rows → has_given (given_lines rows numbers) row ≡ false → place_of rows row ≡ None
no_given rows numbers row e h = none_by (place_of rows row) (sym (given_is rows numbers row e) ∙ h)

abbrev pub one_given : List ℕ → Decimal → Given
one_given row z = record { row = row; number = z }

pub given_push : (rows rows' : List (List ℕ)) (numbers numbers' : List Decimal) (row : List ℕ)
    (z : Decimal) → length numbers ≡ length rows → rows' ≡ rows ++ row ∷ [] → numbers' ≡ numbers
    ++ z ∷ []
    → given_lines rows' numbers' ≡ given_lines rows numbers ++ one_given row z ∷ []
given_push rows rows' numbers numbers' row z e f g = rw (f, g) (pushed rows numbers e)
  where
    pushed : (rs : List (List ℕ)) (ns : List Decimal) → length ns ≡ length rs
        → given_lines (rs ++ row ∷ []) (ns ++ z ∷ []) ≡ given_lines rs ns ++ one_given row z ∷ []
    pushed [] [] e = refl
    pushed [] (x ∷ ns) e = absurd (omega arith)
    pushed (r ∷ rs) [] e = absurd (omega arith)
    pushed (r ∷ rs) (x ∷ ns) e =
        ap (λ (gs : List Given). one_given r x ∷ gs) (pushed rs ns (omega arith))
