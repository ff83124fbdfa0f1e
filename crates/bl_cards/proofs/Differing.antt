-- Names that differ, and their places.
use Rattle.std.proofs.Common.{◌≡◌, ℕ, suc, Bool, true, false, cond, List, [], ◌∷◌, ◌++◌, map}
use Rattle.std.proofs.Common.{get_or, Option, Some, None, refl, sym, ap}
use Rattle.std.specs.Prelude.{option_map}
use Rattle.std.specs.Cmp.Lexicographic.{bytes_decides}
use Rattle.std.proofs.lemmas.Bool.{false_from_ne_true}
use Rattle.bl_cards.specs.Said.{same, place_of, Differ}

-- texts that are the same are equal
pub same_is : (a b : List ℕ) → same a b ≡ true → a ≡ b
same_is a b e = (bytes_decides a b).0 e

pub same_self : (a : List ℕ) → same a a ≡ true
same_self a = (bytes_decides a a).1 refl

pub none_by : (t : Bool) (o : Option ℕ) → cond t (Some 0) (option_map suc o) ≡ None → (t ≡ false)
    × (o ≡ None)
none_by true o e = absurd cc
none_by false None e = (refl, refl)
none_by false (Some i) e = absurd cc

pub some_by : (t : Bool) (o : Option ℕ) (i : ℕ) → cond t (Some 0) (option_map suc o) ≡ Some i
    → (t ≡ false) → (k : ℕ) × (o ≡ Some k) × (i ≡ suc k)
some_by true o i e f = absurd cc
some_by false None i e f = absurd cc
some_by false (Some k) i e f = (k, refl, cc)

-- the value at a name's place
pub read_at : {A : Type 0} (names : List (List ℕ)) (name : List ℕ) (i : ℕ) (f : List ℕ → A)
    (d : A) → place_of names name ≡ Some i → get_or (map f names) i d ≡ f name
read_at [] name i f d e = absurd cc
read_at {A = A} (n ∷ names) name i f d e =
    by (same name n) refl (λ k p. read_at names name k f d p) where
      by : (t : Bool) → same name n ≡ t → ((k : ℕ) → place_of names name ≡ Some k
          → get_or (map f names) k d ≡ f name) → get_or (map f (n ∷ names)) i d ≡ f name
      by true t ih =
          let zero_is : i ≡ 0 = let q =
          ap (λ (b : Bool). cond b (Some 0) (option_map suc (place_of names name))) t in cc in
          let is : name ≡ n = same_is name n t in
          rw (zero_is, is) refl
      by false t ih =
          let p = some_by (same name n) (place_of names name) i e t in
          rw (p.2) (ih p.0 p.1)

-- ---- names that differ, and one more

pub same_turned : (a b : List ℕ) → same a b ≡ false → same b a ≡ false
same_turned a b e = false_from_ne_true (same b a)
    (λ t. let h = (bytes_decides a b).1 (sym (same_is b a t)) in absurd cc)

absent_push : (names : List (List ℕ)) (m n : List ℕ) → place_of names m ≡ None → same m n ≡ false
    → place_of (names ++ n ∷ []) m ≡ None
absent_push [] m n e h = rw h refl
absent_push (k ∷ names) m n e h = let p =
    none_by (same m k) (place_of names m) e in rw (p.0, absent_push names m n p.1 h) refl

pub Differ_push : (names : List (List ℕ)) (n : List ℕ) → Differ names → place_of names n ≡ None
    → Differ (names ++ n ∷ [])
Differ_push [] n d e = (refl, tt)
Differ_push (m ∷ names) n d e = let p = none_by (same n m) (place_of names n) e in
    (absent_push names m n d.0 (same_turned n m p.0), Differ_push names n d.1 p.1)
