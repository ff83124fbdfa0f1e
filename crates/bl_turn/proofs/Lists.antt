-- Beginnings of a list, and what stands at a place of it.
use Rattle.std.proofs.Common.{◌≡◌, ℕ, zero, suc, ◌<◌, ◌≤◌, Bool, cond, List, [], ◌∷◌, ◌++◌}
use Rattle.std.proofs.Common.{length, All, Any, refl, sym, ap, ◌∙◌, subst, arith, length-append}
use Rattle.std.proofs.Common.{◌⊎◌, inl, inr, lt-ltb, le-ltb}
use mathlib.Core.Logic.{dite}
use native.Mathlib.Decide.{dec_lt}
use mathlib.Core.Option.{some, some-injective, some-ne-none}
use lib.ListN.{get_elem?, get_or-append}
use Rattle.std.proofs.lemmas.List.{nil_from_length}
use Rattle.std.proofs.Math.Seq.{drop-append_seam}
use Rattle.std.proofs.lemmas.List.Elements.{All-drop}
use Rattle.bl_turn.specs.Entries.{longer_of}

module _ {A : Type 0} where
  -- of two beginnings of one list, the longer goes on from the other
  pub prefixes : (xs ys rs ss : List A) → xs ++ rs ≡ ys ++ ss → length xs ≤ length ys
      → (mid : List A) × (ys ≡ xs ++ mid) × (rs ≡ mid ++ ss)
  prefixes [] ys rs ss same shorter = (ys, refl, same)
  prefixes (x ∷ xs) [] rs ss same shorter = absurd (omega arith)
  prefixes (x ∷ xs) (y ∷ ys) rs ss same shorter =
      let first : x ≡ y = cc in let others : xs ++ rs ≡ ys ++ ss = cc in
      let t = prefixes xs ys rs ss others (omega arith) in (t.0, (λ i. sym first i ∷ t.1 i), t.2)

  pub nil_parts : (xs ys : List A) → xs ++ ys ≡ [] → (xs ≡ []) × (ys ≡ [])
  nil_parts [] ys e = (refl, e)
  nil_parts (x ∷ xs) ys e = cc

  pub nil_rest : (xs ys rest : List A) → xs ≡ ys ++ rest → length xs ≤ length ys → rest ≡ []
  nil_rest xs ys rest e short =
      nil_from_length rest (omega (arith, ap length e, length-append ys rest))

  pub longer_either : (xs ys : List A) → ((longer_of xs ys ≡ ys) × (length xs ≤ length ys))
      ⊎ ((longer_of xs ys ≡ xs) × (length ys ≤ length xs))
  longer_either xs ys = dite (dec_lt (length xs) (length ys))
      (λ less. inl (
        ap (λ (b : Bool). cond b ys xs) (lt-ltb (length xs) (length ys) less),
        omega
            arith,
      ))
      (λ not_less. let le : length ys ≤ length xs =
      omega arith in inr (
        ap (λ (b : Bool). cond b ys xs) (le-ltb (length xs) (length ys) le),
        le,
      ))

  -- all of a list has a property: so has all of each part
  pub All-append_right : (P : A → Type 0) (xs ys : List A) → All P (xs ++ ys) → All P ys
  All-append_right P xs ys a =
      subst (All P) (drop-append_seam xs ys) (All-drop P (length xs) (xs ++ ys) a)

  pub All-append_left : (P : A → Type 0) (xs ys : List A) → All P (xs ++ ys) → All P xs
  All-append_left P xs ys a = λ k d inside. subst P (get_or-append xs ys d k inside)
      (a k d (omega (arith, length-append xs ys)))

  pub Any-append_left : (P : A → Type 0) (xs ys : List A) → Any P xs → Any P (xs ++ ys)
  Any-append_left P xs ys (k, x, inside, there, holds) =
      (k, x, omega (arith, length-append xs ys), get_or-append xs ys x k inside ∙ there, holds)

  -- what stands at a place
  pub place_inside : (xs : List A) (j : ℕ) (a : A) → get_elem? xs j ≡ some a → j < length xs
  place_inside [] j a e = absurd (some-ne-none a (sym e))
  place_inside (x ∷ xs) zero a e = omega arith
  place_inside (x ∷ xs) (suc j) a e = let inside = place_inside xs j a e in omega arith

  pub inside_place : (xs : List A) (j : ℕ) → j < length xs → (a : A) × (get_elem? xs j ≡ some a)
  inside_place [] j inside = absurd (omega arith)
  inside_place (x ∷ xs) zero inside = (x, refl)
  inside_place (x ∷ xs) (suc j) inside = inside_place xs j (omega arith)

  pub one_at : (xs : List A) (j : ℕ) (a b : A) → get_elem? xs j ≡ some a → get_elem? xs j ≡ some b
      → a ≡ b
  one_at xs j a b p q = some-injective a b (sym p ∙ q)
