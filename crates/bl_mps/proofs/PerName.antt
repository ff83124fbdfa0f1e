-- A value kept for each name, as a function of the name.
use Rattle.std.proofs.Common.{◌≡◌, ℕ, suc, Bool, true, false, cond, List, [], ◌∷◌, map, set, Some}
use Rattle.std.proofs.Common.{None, refl, ap}
use Rattle.std.specs.Prelude.{option_map}
use Rattle.bl_cards.specs.Said.{same, place_of, Differ}
use Rattle.bl_cards.proofs.Differing.{same_is, none_by, some_by}

-- what is kept for names that are not this one stays
pub map_same : {A : Type 0} (names : List (List ℕ)) (name : List ℕ) (f g : List ℕ → A)
    → place_of names name ≡ None → ((m : List ℕ) → same name m ≡ false → g m ≡ f m) → map f names
    ≡ map g names
map_same [] name f g e h = refl
map_same (n ∷ names) name f g e h =
    let p = none_by (same name n) (place_of names name) e in
    rw (h n p.0, map_same names name f g p.1 h) refl

-- One entry is written, where a name has its place: each name then has the new value.
pub written_at : {A : Type 0} (names : List (List ℕ)) (name : List ℕ) (i : ℕ) (f g : List ℕ → A)
    → Differ names → place_of names name ≡ Some i
    → ((m : List ℕ) → same name m ≡ false → g m ≡ f m) → set (map f names) i (g name) ≡ map g names
written_at [] name i f g d e h = absurd cc
written_at {A = A} (n ∷ names) name i f g d e h =
    by (same name n) refl (λ k p. written_at names name k f g d.1 p h) where
      by : (t : Bool) → same name n ≡ t → ((k : ℕ) → place_of names name ≡ Some k
          → set (map f names) k (g name) ≡ map g names) → set (map f (n ∷ names)) i (g name)
          ≡ map g (n ∷ names)
      by true t ih =
          let zero_is : i ≡ 0 = let q =
          ap (λ (b : Bool). cond b (Some 0) (option_map suc (place_of names name))) t in cc in
          let is : name ≡ n = same_is name n t in
          let rest = map_same names n f g d.0 (rw is at h) in
          rw (zero_is, rest, is) refl
      by false t ih =
          let p = some_by (same name n) (place_of names name) i e t in
          rw (p.2, h n t) (ap (λ (xs : List A). f n ∷ xs) (ih p.0 p.1))
