-- Columns given by a function of the place.
use Rattle.std.proofs.Common.{◌≡◌, ℕ, ◌<◌, Bool, true, false, List, [], ◌∷◌, length, set, get_or}
use Rattle.std.proofs.Common.{nat_eq, if◌then◌else◌, refl, sym, ap, ◌∙◌, arith, get_or-set_same}
use Rattle.std.proofs.Common.{get_or-set_other}
use Rattle.std.specs.List.{swap}
use Rattle.std.proofs.lemmas.List.{ext_get_or, set-get_or}
use Rattle.std.proofs.lemmas.List.Edits.{Swapped, swapped_from_swap}
use Rattle.std.proofs.lemmas.Bool.Decides.{nat_tests}
use Rattle.std.proofs.lemmas.List.FromFn.{length-map-range_with_len, get_or-map-range_with_len}
use Rattle.bl_fixed.specs.declared.Fixed.{Fixed}
use Rattle.bl_factor.specs.Vectors.{nought, at, column_of}

pub length-column_of : (n : ℕ) (f : ℕ → Fixed) → length (column_of n f) ≡ n
unfolding column_of
length-column_of n f = length-map-range_with_len f 0 n

pub at-column_of : (n : ℕ) (f : ℕ → Fixed) (i : ℕ) → i < n → at (column_of n f) i ≡ f i
unfolding column_of
at-column_of n f i h = get_or-map-range_with_len f 0 n i i nought h (omega arith)

-- two columns with the same entries
pub same_entries : (xs ys : List Fixed) → length xs ≡ length ys
    → ((i : ℕ) → i < length xs → at xs i ≡ at ys i) → xs ≡ ys
same_entries xs ys e h = ext_get_or nought xs ys e h

-- a column with the entries of a function
pub is_column_of : (n : ℕ) (f : ℕ → Fixed) (xs : List Fixed) → length xs ≡ n
    → ((i : ℕ) → i < n → at xs i ≡ f i) → xs ≡ column_of n f
is_column_of n f xs e h =
    same_entries xs (column_of n f) (e ∙ sym (length-column_of n f))
    (λ i l. let m : i < n = omega (arith, e) in h i m ∙ sym (at-column_of n f i m))

-- a column is that of its entries
pub column_of-at : (xs : List Fixed) → column_of (length xs) (at xs) ≡ xs
column_of-at xs = sym (is_column_of (length xs) (at xs) xs refl (λ i l. refl))

pub same_column_of : (n : ℕ) (f g : ℕ → Fixed) → ((i : ℕ) → i < n → f i ≡ g i) → column_of n f
    ≡ column_of n g
same_column_of n f g h = is_column_of n g (column_of n f) (length-column_of n f)
    (λ i l. at-column_of n f i l ∙ h i l)

-- ---- swaps
pub swap_same : {X : Type 0} (xs : List X) (i : ℕ) → swap xs i i ≡ xs
swap_same [] i = refl
swap_same (x ∷ xs) i = ap (λ (ys : List _). set ys i (get_or (x ∷ xs) i x))
    (set-get_or (x ∷ xs) i x) ∙ set-get_or (x ∷ xs) i x

pub at-swap : (xs : List Fixed) (i j : ℕ) → i < length xs → j < length xs
    → Swapped (at xs) (at (swap xs i j)) i j
at-swap xs i j h k = swapped_from_swap xs (swap xs i j) i j nought h k refl

-- ---- writes
pub at-set : (xs : List Fixed) (i : ℕ) (y : Fixed) (k : ℕ) → i < length xs → at (set xs i y) k
    ≡ (if nat_eq k i then y else at xs k)
at-set xs i y k h = by (nat_eq k i) refl
  where
    by : (t : Bool) → nat_eq k i ≡ t → at (set xs i y) k ≡ (if t then y else at xs k)
    by true e = let p : k ≡ i = grind (arith, nat_tests) in ap (at (set xs i y)) p
        ∙ get_or-set_same xs i y nought h
    by false e = get_or-set_other xs i k y nought (λ p. grind (arith, nat_tests))
