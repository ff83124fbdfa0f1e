-- Names that are found by a hash are found in their list.
use Rattle.std.proofs.Common.{◌≡◌, ℕ, suc, ◌+◌, ◌<◌, Bool, true, false, cond, not, ◌||◌, ltb}
use Rattle.std.proofs.Common.{List, [], ◌∷◌, ◌++◌, map, length, Option, Some, None, refl, ap, ◌∙◌}
use Rattle.std.proofs.Common.{arith}
use Rattle.std.specs.Prelude.{option_map, is_some, position, IfSome}
use Rattle.std.specs.List.{position_or_len, list_any}
use Rattle.std.proofs.lemmas.Bool.Decides.{nat_tests}
use Rattle.std.proofs.lemmas.List.{map-append}
use Rattle.bl_cards.specs.Said.{same, place_of}

shifted : (m n : ℕ) → ltb (1 + m) (suc n) ≡ ltb m n
shifted m n = grind (arith, nat_tests)

in_front : (n : ℕ) → ltb 0 (suc n) ≡ true
in_front n = grind (arith, nat_tests)

suc_in : (t : Bool) (m : ℕ) → cond t (Some (1 + m)) None ≡ option_map suc (cond t (Some m) None)
suc_in true m = ap (λ (k : ℕ). Some k) (omega arith)
suc_in false m = refl

step_by : (t : Bool) (m n : ℕ) → cond (ltb (cond (not t) (1 + m) 0) (suc n))
    (Some (cond (not t) (1 + m) 0)) None
    ≡ cond t (Some 0) (option_map suc (cond (ltb m n) (Some m) None))
step_by true m n = rw (in_front n) refl
step_by false m n = rw (shifted m n) (suc_in (ltb m n) m)

pub position_is : {K : Type 0} (bytes : K → List ℕ) (keys : List K) (name : List ℕ)
    → position (λ k. same name (bytes k)) keys ≡ place_of (map bytes keys) name
position_is bytes [] name = refl
position_is bytes (k ∷ keys) name = step_by (same name (bytes k))
    (position_or_len (λ k. same name (bytes k)) keys) (length keys)
    ∙ ap (λ (o : Option ℕ). cond (same name (bytes k)) (Some 0) (option_map suc o))
    (position_is bytes keys name)

option_map_none : (o : Option ℕ) → option_map suc o ≡ None → o ≡ None
option_map_none None e = refl
option_map_none (Some n) e = absurd cc

absent_by : (t : Bool) (o : Option ℕ) (others : Bool) → cond t (Some 0) (option_map suc o) ≡ None
    → (o ≡ None → others ≡ false) → (t || others) ≡ false
absent_by true o others e ih = absurd cc
absent_by false o others e ih = ih (option_map_none o e)

-- a name without a place is none of them
pub absent : {K : Type 0} (bytes : K → List ℕ) (keys : List K) (name : List ℕ)
    → place_of (map bytes keys) name ≡ None → list_any (λ k. same name (bytes k)) keys ≡ false
absent bytes [] name e = refl
absent bytes (k ∷ keys) name e = absent_by (same name (bytes k)) (place_of (map bytes keys) name)
    (list_any (λ k. same name (bytes k)) keys) e (absent bytes keys name)

pub map_push : {A B : Type 0} (f : A → B) (xs : List A) (x : A) → map f (xs ++ x ∷ []) ≡ map f xs
    ++ f x ∷ []
map_push f xs x = map-append f xs (x ∷ [])

pub place_more : (t : Bool) (o : Option ℕ) → is_some (cond t (Some 0) (option_map suc o))
    ≡ (t || is_some o)
place_more true o = refl
place_more false None = refl
place_more false (Some n) = refl

-- a place is one of the list's
place_by : (t : Bool) (o : Option ℕ) (n p : ℕ) → ((i : ℕ) → o ≡ Some i → i < n)
    → cond t (Some 0) (option_map suc o) ≡ Some p → p < suc n
place_by true o n p k e = let h : 0 ≡ p = cc in omega arith
place_by false None n p k e = absurd cc
place_by false (Some i) n p k e = let h : suc i ≡ p = cc in let g = k i refl in omega arith

pub place_within : (names : List (List ℕ)) (name : List ℕ) (p : ℕ) → place_of names name ≡ Some p
    → p < length names
place_within [] name p e = absurd cc
place_within (n ∷ names) name p e = place_by (same name n) (place_of names name) (length names) p
    (place_within names name) e

pub place_inside : (names : List (List ℕ)) (name : List ℕ) (o : Option ℕ) → place_of names name
    ≡ o → IfSome o (λ p. p < length names)
place_inside names name None e = tt
place_inside names name (Some p) e = place_within names name p e
