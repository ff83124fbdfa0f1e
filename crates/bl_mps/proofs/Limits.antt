-- What keeps the limits.
use Rattle.std.proofs.Common.{Result, Ok, Err, ◌≡◌, ℕ, suc, ◌^◌, ◌<◌, Bool, true, false, cond}
use Rattle.std.proofs.Common.{◌&&◌, List, [], ◌∷◌, length, get_or, Option, Some, None, refl, ap}
use Rattle.std.proofs.Common.{◌∙◌, arith, ℤ, pos, negsuc, ◌+ℤ◌, ◌-ℤ◌, ◌≤ℤ◌}
use Rattle.std.specs.Prelude.{nat_abs}
use Rattle.std.specs.List.{list_all}
use Rattle.std.proofs.lemmas.Int.{ints}
use Rattle.std.proofs.lemmas.Bool.Decides.{nat_tests}
use Rattle.std.proofs.lemmas.Bool.{and_parts}
use Rattle.std.proofs.lemmas.List.{length-map, get_or-map}
use Rattle.std.proofs.lemmas.List.Folds.{list_all_at}
use Rattle.bl_problem.specs.declared.problem.Term.{Term}
use Rattle.bl_mps.specs.declared.entries.Entry.{Entry}
use Rattle.bl_problem.specs.Rows.{AreEnds}
use Rattle.bl_problem.specs.Sums.{IsWithin}
use Rattle.bl_cards.specs.declared.kind.What.{What}
use Rattle.bl_cards.specs.declared.kind.What.TheVariants as what
use Rattle.bl_mps.specs.declared.scale.RowEnds.{RowEnds}
use Rattle.bl_cards.specs.declared.kind.Role.{Role}
use Rattle.bl_cards.specs.declared.kind.Role.TheVariants.{Objective, Extra, AtMost, AtLeast, Equal}
use Rattle.bl_cards.specs.Lines.{is_limited}
use Rattle.bl_mps.specs.Meaning.{low_end, high_end, is_within, term_of, terms_of, term_within}
use Rattle.bl_mps.specs.Meaning.{end_within, limited}

-- ---- what is kept, and what is too wide

pub kept : {A : Type 0} (keeps : A → Bool) (x y : A) → limited keeps x ≡ Ok y → (keeps x ≡ true)
    × (x ≡ y)
kept {A = A} keeps x y e = by (keeps x) e
  where
    by : (t : Bool) → cond {A = Result A What} t (Ok x) (Err what.TooWide) ≡ Ok y → (t ≡ true)
        × (x ≡ y)
    by true e = (refl, cc)
    by false e = absurd cc

pub wide : {A : Type 0} (keeps : A → Bool) (x : A) (w : What) → limited keeps x ≡ Err w
    → (keeps x ≡ false) × (w ≡ what.TooWide)
wide {A = A} keeps x w e = by (keeps x) e
  where
    by : (t : Bool) → cond {A = Result A What} t (Ok x) (Err what.TooWide) ≡ Err w → (t ≡ false)
        × (w ≡ what.TooWide)
    by true e = absurd cc
    by false e = (refl, cc)

-- ---- lists

pub all_true : {A : Type 0} (p : A → Bool) (xs : List A) (k : ℕ) (d : A) → list_all p xs ≡ true
    → k < length xs → p (get_or xs k d) ≡ true
all_true p xs k d e l = by (p (get_or xs k d)) refl
  where
    by : (t : Bool) → p (get_or xs k d) ≡ t → t ≡ true
    by true f = refl
    by false f = let g = list_all_at p xs k d l f in absurd cc

-- one that fails
pub record Fails {A : Type 0} (p : A → Bool) (xs : List A) : Type 0 where
  pub place : ℕ
  pub within : place < length xs
  pub is : (d : A) → p (get_or xs place d) ≡ false

pub one_fails : {A : Type 0} (p : A → Bool) (xs : List A) → list_all p xs ≡ false → Fails p xs
one_fails p [] e = absurd cc
one_fails {A = A} p (x ∷ xs) e = by (p x) refl e (one_fails p xs)
  where
    by : (t : Bool) → p x ≡ t → (t && list_all p xs) ≡ false
        → (list_all p xs ≡ false → Fails p xs) → Fails p (x ∷ xs)
    by true f g ih = let r = ih g in record {
      place = suc r.place;
      within = let l =
          r.within in omega (arith, l);
      is = r.is;
    }
    by false f g ih = record { place = 0; within = omega arith; is = λ d. f }

-- ---- the ends of a row

pub within_is : (m : ℕ) (z : ℤ) → is_within m z ≡ true → IsWithin m z
within_is m z e = grind (arith, nat_tests)

below : (b : ℤ) (k : ℕ) → (b -ℤ pos k) ≤ℤ b
below b k = omega (arith, ints)

above : (b : ℤ) (k : ℕ) → b ≤ℤ (b +ℤ pos k)
above b k = omega (arith, ints)

two_ends : (a b : ℤ) → (is_within (10 ^ 24) a && is_within (10 ^ 24) b) ≡ true → a ≤ℤ b
    → AreEnds (Some a) (Some b)
two_ends a b e l = let t = and_parts (is_within (10 ^ 24) a) (is_within (10 ^ 24) b) e in
    (within_is (10 ^ 24) a t.0, within_is (10 ^ 24) b t.1, l)

one_end : (b : ℤ) (t : Bool) → (is_within (10 ^ 24) b && t) ≡ true → IsWithin (10 ^ 24) b
one_end b t e = within_is (10 ^ 24) b (and_parts (is_within (10 ^ 24) b) t e).0

pub ends_are : (role : Role) (b : ℤ) (r : Option ℤ) → is_limited role ≡ true
    → (end_within (low_end role b r) && end_within (high_end role b r)) ≡ true
    → AreEnds (low_end role b r) (high_end role b r)
ends_are Objective b r l e = absurd cc
ends_are Extra b r l e = absurd cc
ends_are AtMost b None l e = within_is (10 ^ 24) b e
ends_are AtMost b (Some r) l e = two_ends (b -ℤ pos (nat_abs r)) b e (below b (nat_abs r))
ends_are AtLeast b None l e = one_end b true e
ends_are AtLeast b (Some r) l e = two_ends b (b +ℤ pos (nat_abs r)) e (above b (nat_abs r))
ends_are Equal b None l e = two_ends b b e (omega (arith, ints))
ends_are Equal b (Some (pos r)) l e = two_ends b (b +ℤ pos r) e (above b r)
ends_are Equal b (Some (negsuc r)) l e = two_ends (b -ℤ pos (suc r)) b e (below b (suc r))

-- ---- a right side or a range that is too far

pub second_far : (a : Bool) → (a && false) ≡ false
second_far true = refl
second_far false = refl

-- ---- what was given, where something was

pub ends_by : (t : Bool) (e : RowEnds) → cond t (Some e) None ≡ None → t ≡ false
ends_by true e f = absurd cc
ends_by false e f = refl

pub some_by : (t : Bool) (e f : RowEnds) → cond t (Some e) None ≡ Some f → (t ≡ true) × (e ≡ f)
some_by true e f g = (refl, cc)
some_by false e f g = absurd cc

pub some_number : (t : Bool) (z y : ℤ) → cond t (Some z) None ≡ Some y → (t ≡ true) × (z ≡ y)
some_number true z y g = (refl, cc)
some_number false z y g = absurd cc

term_by : (t : Bool) (x : Term) → cond t (Some x) None ≡ None → t ≡ false
term_by true x f = absurd cc
term_by false x f = refl

-- one term that is too wide
pub term_fails : (places : ℕ) (es : List Entry) (i : ℕ) (d : Entry) → i < length es
    → cond (term_within (term_of places (get_or es i d))) (Some (term_of places (get_or es i d)))
    None ≡ None → list_all term_within (terms_of places es) ≡ false
term_fails places es i d l e =
    let wide = length-map es (term_of places) in
    let at = get_or-map (term_of places) es i d (term_of places d) l in
    list_all_at term_within (terms_of places es) i (term_of places d) (omega (arith, l, wide))
    (ap term_within at ∙ term_by (term_within (term_of places (get_or es i d)))
    (term_of places (get_or es i d)) e)
