-- A list that loses some items and gains new ones is a part of the old one and then fresh items.
use Rattle.std.proofs.Common.{◌≡◌, ◌≢◌, ℕ, zero, suc, ◌+◌, ◌<◌, List, [], ◌∷◌, ◌++◌, length}
use Rattle.std.proofs.Common.{get_or, refl, ap, sym, ◌∙◌, subst, arith, append_assoc, Bool, true}
use Rattle.std.proofs.Common.{false, cond, inl, inr, length-set}
use Rattle.std.specs.Prelude.{slice_set, ◌==◌, ◌||◌, AllPairs}
use Rattle.std.specs.List.{filter}
use Rattle.std.proofs.lemmas.Bool.{cases_Bool, true≢false, or_left, or_right, or_parts, or_from}
use Rattle.std.proofs.lemmas.Bool.{and_parts, and_from, cond-true, cond-false, eq-eqb, eqb-true}
use Rattle.std.proofs.lemmas.List.Folds.{list_any-append}
use Rattle.bl_mods.specs.declared.mods.Mod.{Mod}
use Rattle.bl_mods.specs.declared.mods.ListMods.{ListMods}
use Rattle.bl_mods.specs.declared.mods.ItemId.{ItemId}
use Rattle.bl_mods.specs.Mods.{kept_from, is_among, relisted, has_id, same_id, fresh_in}
use Rattle.bl_mods.specs.Mods.{IsPartThenFresh, written}

pub length-written : {T : Type 0} (mods : List (Mod T)) (list : List T)
    → length (written mods list) ≡ length list
length-written [] list = refl
length-written (m ∷ mods) list = length-written mods (slice_set list m.place m.entry)
    ∙ length-set list m.place m.entry

ItemId-eq : (a b : ItemId) → a.seat ≡ b.seat → a.serial ≡ b.serial → a ≡ b
ItemId-eq a b e f =
    let d1 : ℕ → ItemId = λ x. record a { seat = x } in
    let d2 : ℕ → ItemId = λ x. record (d1 b.seat) { serial = x } in
    ap d1 e ∙ ap d2 f

pub same_id-is : (a b : ItemId) → same_id a b ≡ true → a ≡ b
same_id-is a b e =
    let parts = and_parts (a.seat == b.seat) (a.serial == b.serial) e in
    ItemId-eq a b (eqb-true a.seat b.seat parts.0) (eqb-true a.serial b.serial parts.1)

pub same_id-self : (a : ItemId) → same_id a a ≡ true
same_id-self a = and_from (a.seat == a.seat) (a.serial == a.serial) (eq-eqb a.seat a.seat refl)
    (eq-eqb a.serial a.serial refl)

same_id-other : (a b : ItemId) → a ≢ b → same_id a b ≡ false
same_id-other a b ne =
    elim (cases_Bool (same_id a b)) [
      | inl t ↦ absurd (ne (same_id-is a b t))
      | inr f ↦ f
    ]

same_id-turned : (a b : ItemId) → same_id a b ≡ false → same_id b a ≡ false
same_id-turned a b f = same_id-other b a
    (λ e. true≢false (sym (same_id-self a) ∙ (ap (same_id a) (sym e) ∙ f)))

-- no later item has the id of an earlier one
abbrev pub Apart : {C : Type 0} → (C → ItemId) → List C → Type 0
Apart id_of [] = Unit {0}
Apart id_of (x ∷ xs) = (has_id id_of (id_of x) xs ≡ false) × Apart id_of xs

lacks_from : {C : Type 0} (id_of : C → ItemId) (id : ItemId) (xs : List C)
    → ((j : ℕ) (d : C) → j < length xs → id ≢ id_of (get_or xs j d)) → has_id id_of id xs ≡ false
lacks_from id_of id [] h = refl
lacks_from {C} id_of id (x ∷ xs) h =
    or_from (same_id (id_of x) id) (has_id id_of id xs)
    (same_id-turned id (id_of x) (same_id-other id (id_of x) (h 0 x (omega arith))))
    (lacks_from id_of id xs (λ j d b. h (suc j) d (omega (arith, b))))

pub Apart-from_pairs : {C : Type 0} (id_of : C → ItemId) (xs : List C)
    → AllPairs (λ a b. id_of a ≢ id_of b) xs → Apart id_of xs
Apart-from_pairs id_of [] h = tt
Apart-from_pairs {C} id_of (x ∷ xs) h = (
  lacks_from id_of (id_of x) xs (λ j d b. h 0 (suc j) d (omega arith) (omega (arith, b))),
  Apart-from_pairs id_of xs
      (λ i j d a b. h (suc i) (suc j) d (omega (arith, a)) (omega (arith, b))),
)

pub has_id-append : {C : Type 0} (id_of : C → ItemId) (id : ItemId) (xs ys : List C)
    → has_id id_of id (xs ++ ys) ≡ (has_id id_of id xs || has_id id_of id ys)
has_id-append id_of id xs ys = list_any-append (λ c. same_id (id_of c) id) xs ys

lacks_both : {C : Type 0} (id_of : C → ItemId) (id : ItemId) (xs ys : List C) → has_id id_of id xs
    ≡ false → has_id id_of id ys ≡ false → has_id id_of id (xs ++ ys) ≡ false
lacks_both id_of id xs ys a b = has_id-append id_of id xs ys ∙ or_from _ _ a b

lacks_parts : {C : Type 0} (id_of : C → ItemId) (id : ItemId) (xs ys : List C)
    → has_id id_of id (xs ++ ys) ≡ false → (has_id id_of id xs ≡ false)
    × (has_id id_of id ys ≡ false)
lacks_parts id_of id xs ys h = or_parts _ _ (sym (has_id-append id_of id xs ys) ∙ h)

by_choice : {X : Type 0} (P : X → Type 0) (b : Bool) (x y : X) → (b ≡ true → P x)
    → (b ≡ false → P y) → P (cond b x y)
by_choice P true x y f g = f refl
by_choice P false x y f g = g refl

pub lacks_kept : {C : Type 0} (id_of : C → ItemId) (id : ItemId) (at : ℕ) (dropped : List ℕ)
    (xs : List C) → has_id id_of id xs ≡ false → has_id id_of id (kept_from at dropped xs) ≡ false
lacks_kept id_of id at dropped [] h = refl
lacks_kept {C} id_of id at dropped (x ∷ xs) h =
    let parts = or_parts (same_id (id_of x) id) (has_id id_of id xs) h in
    let rest = lacks_kept id_of id (at + 1) dropped xs parts.1 in
    by_choice (λ (l : List C). has_id id_of id l ≡ false) (is_among at dropped)
    (kept_from (at + 1) dropped xs) (x ∷ kept_from (at + 1) dropped xs)
    (λ _. rest) (λ _. or_from (same_id (id_of x) id)
    (has_id id_of id (kept_from (at + 1) dropped xs)) parts.0 rest)

-- each item of the list differs from the later ones, and from those of the two other lists
abbrev Loose : {C : Type 0} → (C → ItemId) → List C → List C → List C → Type 0
Loose id_of front added [] = Unit {0}
Loose id_of front added (x ∷ xs) =
    (has_id id_of (id_of x) front ≡ false) × (has_id id_of (id_of x) added ≡ false)
    × (has_id id_of (id_of x) xs ≡ false) × Loose id_of front added xs

-- the id of x is not among those of the list, seen from the list's items
Loose-push : {C : Type 0} (id_of : C → ItemId) (front added xs : List C) (x : C)
    → has_id id_of (id_of x) xs ≡ false → Loose id_of front added xs
    → Loose id_of (front ++ x ∷ []) added xs
Loose-push id_of front added [] x none l = tt
Loose-push id_of front added (y ∷ xs) x none l =
    let parts = or_parts (same_id (id_of y) (id_of x)) (has_id id_of (id_of x) xs) none in
    let one : has_id id_of (id_of y) (x ∷ []) ≡ false =
    or_from (same_id (id_of x) (id_of y)) false (same_id-turned (id_of y) (id_of x) parts.0)
    refl in (
      lacks_both id_of (id_of y) front (x ∷ []) l.0 one,
      l.1,
      l.2,
      Loose-push id_of front added xs
          x parts.1 l.3,
    )

Loose-from_apart : {C : Type 0} (id_of : C → ItemId) (xs added : List C)
    → Apart id_of (xs ++ added) → Loose id_of [] added xs
Loose-from_apart id_of [] added a = tt
Loose-from_apart id_of (x ∷ xs) added a =
    let parts = lacks_parts id_of (id_of x) xs added a.0 in
    (refl, parts.1, parts.0, Loose-from_apart id_of xs added a.1)

filter_kept : {C : Type 0} (id_of : C → ItemId) (front added : List C) (at : ℕ) (dropped : List ℕ)
    (xs : List C) → Loose id_of front added xs
    → filter (λ y. has_id id_of (id_of y) (front ++ (kept_from at dropped xs ++ added))) xs
    ≡ kept_from at dropped xs
filter_kept id_of front added at dropped [] l = refl
filter_kept {C} id_of front added at dropped (x ∷ xs) l =
    by_choice (λ (m : List C). filter (λ y. has_id id_of (id_of y) (front ++ (m ++ added)))
    (x ∷ xs) ≡ m) (is_among at dropped) (kept_from (at + 1) dropped xs)
    (x ∷ kept_from (at + 1) dropped xs)
    (λ _. gone (filter_kept id_of front added (at + 1) dropped xs l.3))
    (λ _. stays (filter_kept id_of (front ++ x ∷ []) added (at + 1) dropped xs
    (Loose-push id_of front added xs x l.2 l.3)))
  where
    k : List C
    k = kept_from (at + 1) dropped xs

    gone : filter (λ y. has_id id_of (id_of y)
        (front ++ (kept_from (at + 1) dropped xs ++ added))) xs ≡ kept_from (at + 1) dropped xs
        → filter (λ y. has_id id_of (id_of y) (front ++ (kept_from (at + 1) dropped xs ++ added)))
        (x ∷ xs) ≡ kept_from (at + 1) dropped xs
    gone ih =
        let lacks : has_id id_of (id_of x) (front ++ (k ++ added)) ≡ false =
        lacks_both id_of (id_of x) front (k ++ added) l.0
        (lacks_both id_of (id_of x) k added
        (lacks_kept id_of (id_of x) (at + 1) dropped xs l.2) l.1) in
        cond-false (has_id id_of (id_of x) (front ++ (k ++ added))) _ _ lacks ∙ ih

    stays : filter (λ y. has_id id_of (id_of y)
        ((front ++ x ∷ []) ++ (kept_from (at + 1) dropped xs ++ added))) xs
        ≡ kept_from (at + 1) dropped xs
        → filter (λ y. has_id id_of (id_of y)
        (front ++ ((x ∷ kept_from (at + 1) dropped xs) ++ added))) (x ∷ xs) ≡ x
        ∷ kept_from (at + 1) dropped xs
    stays ih =
        let has : has_id id_of (id_of x) (front ++ (x ∷ (k ++ added))) ≡ true =
        has_id-append id_of (id_of x) front (x ∷ (k ++ added))
        ∙ or_right (has_id id_of (id_of x) front) _
        (or_left (same_id (id_of x) (id_of x)) (has_id id_of (id_of x) (k ++ added))
        (same_id-self (id_of x))) in
        let same : (front ++ x ∷ []) ++ (k ++ added) ≡ front ++ (x ∷ (k ++ added)) =
        append_assoc front (x ∷ []) (k ++ added) in
        let ih' : filter (λ y. has_id id_of (id_of y) (front ++ (x ∷ (k ++ added)))) xs ≡ k =
        subst (λ (m : List C). filter (λ y. has_id id_of (id_of y) m) xs ≡ k) same ih in
        cond-true (has_id id_of (id_of x) (front ++ (x ∷ (k ++ added)))) _ _ has
        ∙ ap (λ m. x ∷ m) ih'

-- each item of the one list has an id of the other, or none has
abbrev pub AllIn : {C : Type 0} → (C → ItemId) → Bool → List C → List C → Type 0
AllIn id_of b old [] = Unit {0}
AllIn id_of b old (y ∷ ys) = (has_id id_of (id_of y) old ≡ b) × AllIn id_of b old ys

AllIn-wider : {C : Type 0} (id_of : C → ItemId) (x : C) (old ys : List C)
    → AllIn id_of true old ys → AllIn id_of true (x ∷ old) ys
AllIn-wider id_of x old [] a = tt
AllIn-wider id_of x old (y ∷ ys) a = (
  or_right (same_id (id_of x) (id_of y)) (has_id id_of (id_of y) old) a.0,
  AllIn-wider id_of x
      old ys a.1,
)

pub AllIn-self : {C : Type 0} (id_of : C → ItemId) (xs : List C) → AllIn id_of true xs xs
AllIn-self id_of [] = tt
AllIn-self id_of (x ∷ xs) = (
  or_left (same_id (id_of x) (id_of x)) (has_id id_of (id_of x) xs)
      (same_id-self (id_of x)),
  AllIn-wider id_of x xs xs (AllIn-self id_of xs),
)

AllIn-kept : {C : Type 0} (id_of : C → ItemId) (old : List C) (at : ℕ) (dropped : List ℕ)
    (xs : List C) → AllIn id_of true old xs → AllIn id_of true old (kept_from at dropped xs)
AllIn-kept id_of old at dropped [] a = tt
AllIn-kept {C} id_of old at dropped (x ∷ xs) a =
    let rest = AllIn-kept id_of old (at + 1) dropped xs a.1 in
    by_choice (λ (l : List C). AllIn id_of true old l) (is_among at dropped)
    (kept_from (at + 1) dropped xs) (x ∷ kept_from (at + 1) dropped xs) (λ _. rest)
    (λ _. (a.0, rest))

fresh_skip : {C : Type 0} (id_of : C → ItemId) (old xs ys : List C) → AllIn id_of true old xs
    → fresh_in id_of old (xs ++ ys) ≡ fresh_in id_of old ys
fresh_skip id_of old [] ys a = refl
fresh_skip id_of old (x ∷ xs) ys a = cond-true (has_id id_of (id_of x) old) _ _ a.0
    ∙ fresh_skip id_of old xs ys a.1

fresh_keep : {C : Type 0} (id_of : C → ItemId) (old xs : List C) → AllIn id_of false old xs
    → fresh_in id_of old xs ≡ xs
fresh_keep id_of old [] a = refl
fresh_keep id_of old (x ∷ xs) a = cond-false (has_id id_of (id_of x) old) _ _ a.0
    ∙ ap (λ l. x ∷ l) (fresh_keep id_of old xs a.1)

lacks_self : {C : Type 0} (id_of : C → ItemId) (y : C) (old : List C)
    → Apart id_of (old ++ y ∷ []) → has_id id_of (id_of y) old ≡ false
lacks_self id_of y [] a = refl
lacks_self id_of y (x ∷ old) a =
    let parts = lacks_parts id_of (id_of x) old (y ∷ []) a.0 in
    let last = or_parts (same_id (id_of y) (id_of x)) false parts.1 in
    or_from (same_id (id_of x) (id_of y)) (has_id id_of (id_of y) old)
    (same_id-turned (id_of y) (id_of x) last.0) (lacks_self id_of y old a.1)

Apart-front : {C : Type 0} (id_of : C → ItemId) (xs ys : List C) → Apart id_of (xs ++ ys)
    → Apart id_of xs
Apart-front id_of [] ys a = tt
Apart-front id_of (x ∷ xs) ys a =
    ((lacks_parts id_of (id_of x) xs ys a.0).0, Apart-front id_of xs ys a.1)

-- without the first of the items that follow
Apart-skip : {C : Type 0} (id_of : C → ItemId) (xs : List C) (y : C) (ys : List C)
    → Apart id_of (xs ++ y ∷ ys) → Apart id_of (xs ++ ys)
Apart-skip id_of [] y ys a = a.1
Apart-skip id_of (x ∷ xs) y ys a =
    let parts = lacks_parts id_of (id_of x) xs (y ∷ ys) a.0 in
    let last = or_parts (same_id (id_of y) (id_of x)) (has_id id_of (id_of x) ys) parts.1 in
    (lacks_both id_of (id_of x) xs ys parts.0 last.1, Apart-skip id_of xs y ys a.1)

AllIn-added : {C : Type 0} (id_of : C → ItemId) (old added : List C) → Apart id_of (old ++ added)
    → AllIn id_of false old added
AllIn-added id_of old [] a = tt
AllIn-added {C} id_of old (y ∷ added) a =
    let shorter : Apart id_of (old ++ y ∷ []) =
    Apart-front id_of (old ++ y ∷ []) added
    (subst (λ (l : List C). Apart id_of l) (sym (append_assoc old (y ∷ []) added)) a) in
    (lacks_self id_of y old shorter, AllIn-added id_of old added (Apart-skip id_of old y added a))

-- dropping places and adding items with new ids leaves a part and then fresh items
pub IsPartThenFresh-relisted : {C : Type 0} (id_of : C → ItemId) (mods : ListMods C)
    (old : List C) → AllPairs (λ a b. id_of a ≢ id_of b) (old ++ mods.added)
    → IsPartThenFresh id_of old (relisted mods old)
IsPartThenFresh-relisted {C} id_of mods old pairs =
    let apart : Apart id_of (old ++ mods.added) =
    Apart-from_pairs id_of (old ++ mods.added) pairs in
    let k : List C = kept_from 0 mods.dropped old in
    let f : filter (λ y. has_id id_of (id_of y) (k ++ mods.added)) old ≡ k =
    filter_kept id_of [] mods.added 0 mods.dropped old
    (Loose-from_apart id_of old mods.added apart) in
    let g : fresh_in id_of old (k ++ mods.added) ≡ mods.added =
    fresh_skip id_of old k mods.added (AllIn-kept id_of old 0 mods.dropped old
    (AllIn-self id_of old)) ∙ fresh_keep id_of old mods.added
    (AllIn-added id_of old mods.added apart) in
    sym (ap (λ l. l ++ fresh_in id_of old (k ++ mods.added)) f ∙ ap (λ l. k ++ l) g)

-- what is left of a list and the added items have different ids, where the list's and theirs had
pub Apart-kept : {C : Type 0} (id_of : C → ItemId) (at : ℕ) (dropped : List ℕ) (xs added : List C)
    → Apart id_of (xs ++ added) → Apart id_of (kept_from at dropped xs ++ added)
Apart-kept id_of at dropped [] added a = a
Apart-kept {C} id_of at dropped (x ∷ xs) added a =
    let rest = Apart-kept id_of (at + 1) dropped xs added a.1 in
    let parts = lacks_parts id_of (id_of x) xs added a.0 in
    by_choice (λ (l : List C). Apart id_of (l ++ added)) (is_among at dropped)
    (kept_from (at + 1) dropped xs) (x ∷ kept_from (at + 1) dropped xs)
    (λ _. rest)
    (λ _. (
      lacks_both id_of (id_of x) (kept_from (at + 1) dropped xs) added
          (lacks_kept id_of (id_of x) (at + 1) dropped xs parts.0) parts.1,
      rest,
    ))

lacks_at : {C : Type 0} (id_of : C → ItemId) (id : ItemId) (xs : List C) (j : ℕ) (d : C) → j
    < length xs → has_id id_of id xs ≡ false → id ≢ id_of (get_or xs j d)
lacks_at id_of id [] j d h f e = omega (arith, h)
lacks_at id_of id (x ∷ xs) zero d h f e =
    let parts = or_parts (same_id (id_of x) id) (has_id id_of id xs) f in
    true≢false (sym (same_id-self id) ∙ (ap (λ k. same_id k id) e ∙ parts.0))
lacks_at id_of id (x ∷ xs) (suc j) d h f e =
    lacks_at id_of id xs j d (omega (arith, h))
    (or_parts (same_id (id_of x) id) (has_id id_of id xs) f).1 e

pub pairs_from_apart : {C : Type 0} (id_of : C → ItemId) (xs : List C) → Apart id_of xs
    → AllPairs (λ a b. id_of a ≢ id_of b) xs
pairs_from_apart id_of [] a i j d h k = absurd (omega (arith, k))
pairs_from_apart id_of (x ∷ xs) a zero zero d h k = absurd (omega (arith, h))
pairs_from_apart id_of (x ∷ xs) a zero (suc j) d h k =
    lacks_at id_of (id_of x) xs j d (omega (arith, k)) a.0
pairs_from_apart id_of (x ∷ xs) a (suc i) zero d h k = absurd (omega (arith, h))
pairs_from_apart id_of (x ∷ xs) a (suc i) (suc j) d h k =
    pairs_from_apart id_of xs a.1 i j d (omega (arith, h)) (omega (arith, k))
