-- There are no more keys than the table is long.
use Rattle.std.proofs.Common.{◌≡◌, ◌≢◌, ◌<◌, ◌≤◌, ◌+◌, ◌==◌, ◌||◌, ◌∙◌, inl, inr, ℕ, Bool, true}
use Rattle.std.proofs.Common.{false, arith, refl, sym, ap, subst, List, [], ◌∷◌, length, zero}
use Rattle.std.proofs.Common.{suc}
use Rattle.std.specs.Prelude.{map, slice_index_or}
use Rattle.std.specs.List.{AllByRecursion, IsDistinct, list_any}
use Rattle.std.proofs.lemmas.Bool.{cases_eq, ne_eqb, or_cases, true≢false}
use Rattle.std.proofs.lemmas.List.{length-map}
use Rattle.std.proofs.lemmas.Map.Keys.{IsDistinct-cons}
use Rattle.std.proofs.lemmas.Map.Steps.{length-le_from_distinct_below}
use Rattle.bl_pool.specs.declared.key.Key.{Key}
use Rattle.bl_pool.specs.Heaps.{Tied, key_of, place_of}
use Rattle.bl_pool.proofs.Tables.{Places, in_table, one_place}

unlike : (x : ℕ) (xs : List ℕ) → ((i : ℕ) → i < length xs → x ≢ slice_index_or xs i 0)
    → AllByRecursion (λ y. (x == y) ≡ false) xs
unlike x [] other = tt
unlike x (y ∷ ys) other = (
  ne_eqb x y (other 0 (omega arith)),
  unlike x ys
      (λ i inside. other (suc i) (omega (arith, inside))),
)

distinct : (xs : List ℕ) → ((i j : ℕ) → i < length xs → j < length xs → slice_index_or xs i 0
    ≡ slice_index_or xs j 0 → i ≡ j) → IsDistinct (λ a b. a == b) xs
unfolding IsDistinct
distinct [] one = tt
distinct (x ∷ xs) one = (
  unlike x xs (λ i inside e. absurd (let h : 0 ≡ suc i =
      one 0 (suc i) (omega arith) (omega (arith, inside)) e in omega (arith, h))),
  distinct xs (λ i j i_in j_in e. let h : suc i ≡ suc j =
      one (suc i) (suc j) (omega (arith, i_in)) (omega (arith, j_in)) e in omega (arith, h)),
)

below : (q : ℕ) (xs : List ℕ) (n : ℕ) → ((i : ℕ) → i < length xs → slice_index_or xs i 0 < n)
    → list_any (λ y. q == y) xs ≡ true → q < n
below q [] n each found = absurd (true≢false (sym found))
below q (x ∷ xs) n each found = elim (cases_eq q x) [
  | inl e ↦ let h : x < n = each 0 (omega arith) in omega (arith, e, h)
  | inr other ↦
      below q xs n (λ i inside. each (suc i) (omega (arith, inside)))
      (ap (λ (b : Bool). b || list_any (λ y. q == y) xs) (sym (ne_eqb q x other)) ∙ found)
]

id_at : (keys : List Key) (i : ℕ) → slice_index_or (map (λ (k : Key). k.id) keys) i 0
    ≡ (key_of keys i).id
id_at [] i = refl
id_at (k ∷ keys) zero = refl
id_at (k ∷ keys) (suc i) = id_at keys i

pub few_keys : (keys : List Key) (p : Places) → Tied keys p → length keys ≤ length p
few_keys keys p t =
    let len : length (map (λ (k : Key). k.id) keys) ≡ length keys =
    length-map keys (λ (k : Key). k.id) in
    let few : length (map (λ (k : Key). k.id) keys) ≤ length p =
    length-le_from_distinct_below (map (λ (k : Key). k.id) keys) (length p)
    (distinct (map (λ (k : Key). k.id) keys) (λ i j i_in j_in e. one_place keys p t i j
    (omega (arith, i_in, len)) (omega (arith, j_in, len))
    (sym (id_at keys i) ∙ e ∙ id_at keys j)))
    (λ q found. below q (map (λ (k : Key). k.id) keys) (length p)
    (λ i inside. subst (λ n. n < length p) (sym (id_at keys i))
    (in_table p (key_of keys i).id i (t.placed i (omega (arith, inside, len))))) found) in
    omega (arith, len, few)
