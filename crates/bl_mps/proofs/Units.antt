-- Numbers in units of the least power of ten that makes a row whole.
use Rattle.std.proofs.Common.{◌≡◌, ◌≢◌, ◌⊎◌, ⊎_elim, inl, inr, ℕ, zero, suc, ◌-◌, ◌*◌, ◌^◌, ◌<◌}
use Rattle.std.proofs.Common.{◌≤◌, max, List, [], ◌∷◌, length, get_or, fold, All, refl, sym, ap}
use Rattle.std.proofs.Common.{◌∙◌, arith, ℤ, pos}
use Rattle.std.specs.Prelude.{nat_abs, neg_ℤ}
use Rattle.std.proofs.lemmas.Int.{ints, unsigned_abs-mul}
use Rattle.std.proofs.lemmas.List.Elements.{All-cons}
use Rattle.bl_num.specs.declared.Decimal.{Decimal}
use Rattle.bl_num.specs.Decimals.{in_units}
use Rattle.bl_num.specs.Spellings.{IsCanonical}
use Rattle.bl_num.proofs.Powers.{ten_pow-positive}
use Rattle.bl_problem.specs.Program.{HasTen}
use Rattle.bl_mps.specs.declared.entries.Entry.{Entry}
use Rattle.bl_mps.specs.Meaning.{RowSaid, or_zero, places_of, IsRowRead}

-- ---- places

abbrev more_places : ℕ → Entry → ℕ
more_places n e = max n e.number.places

fold_from : (es : List Entry) (n : ℕ) → n ≤ fold more_places n es
fold_from [] n = omega arith
fold_from (e ∷ es) n = let i = fold_from es (more_places n e) in omega (arith, i)

fold_above : (es : List Entry) (n : ℕ)
    → All (λ (e : Entry). e.number.places ≤ fold more_places n es) es
fold_above [] n = λ k d l. absurd (omega arith)
fold_above (e ∷ es) n =
    let i = fold_from es (more_places n e) in
    All-cons (λ (x : Entry). x.number.places ≤ fold more_places (more_places n e) es) e es
    (omega (arith, i)) (fold_above es (more_places n e))

fold_few : (es : List Entry) (n m : ℕ) → n ≤ m → All (λ (e : Entry). e.number.places ≤ m) es
    → fold more_places n es ≤ m
fold_few [] n m l h = l
fold_few (e ∷ es) n m l h = let f = h 0 e (omega arith) in fold_few es (more_places n e) m
    (omega (arith, l, f)) (λ k d i. h (suc k) d (omega arith))

-- the count of places is reached by one of them
pub record Reached (es : List Entry) (n : ℕ) : Type 0 where
  pub place : ℕ
  pub within : place < length es
  pub is : (d : Entry) → (get_or es place d).number.places ≡ n

fold_reached : (es : List Entry) (n : ℕ) → (fold more_places n es ≡ n)
    ⊎ Reached es (fold more_places n es)
fold_reached [] n = inl refl
fold_reached (e ∷ es) n = ⊎_elim
    (λ same. by same (first n e.number.places))
    (λ r. inr (record {
      place = suc r.place;
      within = let l = r.within in omega (arith, l);
      is =
          r.is;
    }))
    (fold_reached es (more_places n e))
  where
    first : (a b : ℕ) → (max a b ≡ a) ⊎ (max a b ≡ b)
    first a b = grind arith

    by : fold more_places (more_places n e) es ≡ more_places n e → (more_places n e ≡ n)
        ⊎ (more_places n e ≡ e.number.places) → (fold more_places n (e ∷ es) ≡ n)
        ⊎ Reached (e ∷ es) (fold more_places n (e ∷ es))
    by same (inl f) = inl (same ∙ f)
    by same (inr f) = inr (record { place = 0; within = omega arith; is = λ d. sym (same ∙ f) })

pub places_above : (r : RowSaid) → All (λ (e : Entry). e.number.places ≤ places_of r) r.entries
places_above r = λ k d l. let a = fold_above r.entries 0 k d l in omega (arith, a)

pub right_above : (r : RowSaid) → r.right.places ≤ places_of r
right_above r = omega arith

pub range_above : (r : RowSaid) → (or_zero r.range).places ≤ places_of r
range_above r = omega arith

-- no count below it will do
pub places_least : (r : RowSaid) (n : ℕ) → All (λ (e : Entry). e.number.places ≤ n) r.entries
    → r.right.places ≤ n → (or_zero r.range).places ≤ n → places_of r ≤ n
places_least r n a b c = let f = fold_few r.entries 0 n (omega arith) a in omega (arith, f, b, c)

pub places_few : (r : RowSaid) → IsRowRead r → places_of r ≤ 27
places_few r h =
    let a = fold_few r.entries 0 27 (omega arith) (λ k d l. (h.entries k d l).limits.1) in
    let b = h.right.limits.1 in
    let c = h.range.limits.1 in
    omega (arith, a, b, c)

-- where there are places, the right side, the range or an entry has as many
pub places_reached : (r : RowSaid) → places_of r ≢ 0 → (r.right.places ≡ places_of r)
    ⊎ ((or_zero r.range).places ≡ places_of r) ⊎ Reached r.entries (places_of r)
places_reached r n = by (fold_reached r.entries 0)
    (most (fold more_places 0 r.entries) r.right.places (or_zero r.range).places)
  where
    most : (a b c : ℕ) → (max a (max b c) ≡ a) ⊎ ((max a (max b c) ≡ b) ⊎ (max a (max b c) ≡ c))
    most a b c = grind arith

    by : (fold more_places 0 r.entries ≡ 0) ⊎ Reached r.entries (fold more_places 0 r.entries)
        → (places_of r ≡ fold more_places 0 r.entries)
        ⊎ ((places_of r ≡ r.right.places) ⊎ (places_of r ≡ (or_zero r.range).places))
        → (r.right.places ≡ places_of r) ⊎ ((or_zero r.range).places ≡ places_of r)
        ⊎ Reached r.entries (places_of r)
    by f (inr (inl e)) = inl (sym e)
    by f (inr (inr e)) = inr (inl (sym e))
    by (inl f) (inl e) = absurd (n (e ∙ f))
    by (inr f) (inl e) =
        inr (inr (record { place = f.place; within = f.within; is = λ d. f.is d ∙ sym e }))

-- ---- numbers in units

no_factor : (m p : ℕ) → 0 < p → m * p ≡ 0 → m ≡ 0
no_factor zero p l e = refl
no_factor (suc m) p l e = absurd (grind (arith, l, e))

pub units_nonzero : (d : Decimal) (places : ℕ) → nat_abs d.mantissa ≢ 0 → in_units d places ≢ pos 0
units_nonzero d places n = λ e.
    let s = unsigned_abs-mul d.mantissa (pos (10 ^ (places - d.places))) in
    let z : nat_abs d.mantissa * 10 ^ (places - d.places) ≡ 0 = sym s ∙ ap nat_abs e in
    n (no_factor (nat_abs d.mantissa) (10 ^ (places - d.places))
    (ten_pow-positive (places - d.places)) z)

-- a number with as many places as there are, and some, is not a multiple of ten
pub units_last : (d : Decimal) (places : ℕ) → IsCanonical d → d.places ≡ places → places ≢ 0
    → HasTen (in_units d places) → ⊥
units_last d places c e n t =
    let k : places - d.places ≡ 0 = omega (arith, e) in
    let s = unsigned_abs-mul d.mantissa (pos (10 ^ (places - d.places))) in
    let u = unsigned_abs-mul t.0 (pos 10) in
    let v : nat_abs d.mantissa * 10 ^ (places - d.places) ≡ nat_abs t.0 * 10 =
    sym s ∙ ap nat_abs t.1 ∙ u in
    let w : nat_abs d.mantissa ≡ nat_abs t.0 * 10 = let x = rw k at v in omega (arith, x) in
    ⊎_elim (λ z. n (sym e ∙ z)) (λ m. m (rw w (omega arith))) c

pub ten_negated : (z : ℤ) → HasTen (neg_ℤ z) → HasTen z
ten_negated z t = (neg_ℤ t.0, let e = t.1 in omega (arith, ints, e))
