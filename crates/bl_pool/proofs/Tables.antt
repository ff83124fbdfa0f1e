-- The table of places beside the heap.
use Rattle.std.proofs.Common.{◌≡◌, ◌≢◌, ◌<◌, ◌≤◌, ◌+◌, inl, inr, ℕ, arith, refl, sym, ap, subst}
use Rattle.std.proofs.Common.{◌∙◌, List, [], ◌∷◌, length, zero, suc, Option, Some, None}
use Rattle.std.proofs.Common.{get_or-set_other, get_or-set_same, is_some, true≢false, length-set}
use Rattle.std.specs.Prelude.{option_map, slice_index_or, slice_set}
use Rattle.std.specs.List.{SwappedAt}
use Rattle.std.proofs.lemmas.Bool.{cases_eq, cases_lt}
use Rattle.std.proofs.lemmas.List.Edits.{Swapped}
use Rattle.bl_pool.specs.declared.key.Key.{Key}
use Rattle.bl_pool.specs.Heaps.{Tied, key_at, key_of, no_key, place_before, place_of}

abbrev pub Places : Type 0
Places = List ℕ

pub some≢none : {X : Type 0} (x : X) → Some x ≡ None → ⊥
some≢none x e = true≢false (ap is_some e)

pub same_place : (x y : ℕ) → Some x ≡ Some y → x ≡ y
same_place x y e = cc

beyond : {X : Type 0} (xs : List X) (k : ℕ) (d : X) → length xs ≤ k → slice_index_or xs k d ≡ d
beyond [] k d past = refl
beyond (x ∷ xs) zero d past = absurd (omega arith)
beyond (x ∷ xs) (suc k) d past = beyond xs k d (omega arith)

-- an id that has a place is in the table
pub in_table : (p : Places) (id i : ℕ) → place_of p id ≡ Some i → id < length p
in_table p id i e = elim (cases_lt id (length p)) [
  | inl inside ↦ inside
  | inr past ↦ absurd (some≢none i (sym e ∙ ap place_before (beyond p id 0 past)))
]

pub one_place : (keys : List Key) (p : Places) → Tied keys p → (i j : ℕ) → i < length keys → j
    < length keys → (key_of keys i).id ≡ (key_of keys j).id → i ≡ j
one_place keys p t i j i_in j_in same =
    same_place i j (sym (t.placed i i_in) ∙ ap (place_of p) same ∙ t.placed j j_in)

-- what stands after a place is written as the number after it
place_next : (i : ℕ) → place_before (i + 1) ≡ Some i
place_next i = let e : i + 1 ≡ suc i = omega arith in ap place_before e

written_here : (p : Places) (a i : ℕ) → a < length p → place_of (slice_set p a (i + 1)) a ≡ Some i
written_here p a i inside = ap place_before (get_or-set_same p a (i + 1) 0 inside) ∙ place_next i

emptied_here : (p : Places) (a : ℕ) → a < length p → place_of (slice_set p a 0) a ≡ None
emptied_here p a inside = ap place_before (get_or-set_same p a 0 0 inside)

set_other : (p : Places) (a x n : ℕ) → x ≢ a → place_of (slice_set p a n) x ≡ place_of p x
set_other p a x n other = ap place_before (get_or-set_other p a x n 0 other)

abbrev pub exchanged : Places → ℕ → ℕ → ℕ → ℕ → Places
exchanged p a b i j = slice_set (slice_set p a (i + 1)) b (j + 1)

module _ (p : Places) (a b i j : ℕ) (a_in : a < length p) (b_in : b < length p) where
  at_last : place_of (exchanged p a b i j) b ≡ Some j
  at_last = written_here (slice_set p a (i + 1)) b j (omega (arith, length-set {A = ℕ}))

  at_first : a ≢ b → place_of (exchanged p a b i j) a ≡ Some i
  at_first other = set_other (slice_set p a (i + 1)) b a (j + 1) other ∙ written_here p a i a_in

  at_others : (x : ℕ) → x ≢ a → x ≢ b → place_of (exchanged p a b i j) x ≡ place_of p x
  at_others x not_a not_b = set_other (slice_set p a (i + 1)) b x (j + 1) not_b
      ∙ set_other p a x (i + 1) not_a

module _ (keys new : List Key) (p : Places) (i j : ℕ) (i_in : i < length keys)
    (j_in : j < length keys) (t : Tied keys p) (len : length new ≡ length keys)
    (sw : Swapped (key_of keys) (key_of new) i j) where
  a : ℕ
  a = (key_of new i).id

  b : ℕ
  b = (key_of new j).id

  a_was : place_of p (key_of new i).id ≡ Some j
  a_was = ap (λ (k : Key). place_of p k.id) sw.0 ∙ t.placed j j_in

  b_was : place_of p (key_of new j).id ≡ Some i
  b_was = ap (λ (k : Key). place_of p k.id) sw.1 ∙ t.placed i i_in

  -- two places with one id are one
  apart : i ≢ j → (key_of new i).id ≢ (key_of new j).id
  apart other same = other (sym (same_place j i (sym a_was ∙ ap (place_of p) same ∙ b_was)))

  tied_placed : (k : ℕ) → k < length new
      → place_of (exchanged p (key_of new i).id (key_of new j).id i j) (key_of new k).id ≡ Some k
  tied_placed k k_in = elim (cases_eq k j) [
    | inl last ↦ subst (λ m. place_of (exchanged p (key_of new i).id (key_of new j).id i j)
        (key_of new m).id ≡ Some m) (sym last)
        (at_last p _ _ i j (in_table p _ j a_was) (in_table p _ i b_was))
    | inr not_last ↦ elim (cases_eq k i) [
      | inl first ↦ subst (λ m. place_of (exchanged p (key_of new i).id (key_of new j).id i j)
          (key_of new m).id ≡ Some m) (sym first)
          (at_first p _ _ i j (in_table p _ j a_was) (in_table p _ i b_was)
          (apart (λ e. not_last (first ∙ e))))
      | inr other ↦
          let kept : key_of new k ≡ key_of keys k = sw.2 k other not_last in
          let was : place_of p (key_of new k).id ≡ Some k = ap (λ (x : Key). place_of p x.id) kept
          ∙ t.placed k (omega arith) in
          at_others p _ _ i j (in_table p _ j a_was) (in_table p _ i b_was) (key_of new k).id
          (λ e. not_last (same_place k j (sym was ∙ ap (place_of p) e ∙ a_was)))
          (λ e. other (same_place k i (sym was ∙ ap (place_of p) e ∙ b_was))) ∙ was
    ]
  ]

  -- how an id stands to the two that change places
  by_id : (P : ℕ → Type 0) → P (key_of new j).id
      → ((key_of new i).id ≢ (key_of new j).id → P (key_of new i).id)
      → ((x : ℕ) → x ≢ (key_of new i).id → x ≢ (key_of new j).id → P x) → (x : ℕ) → P x
  by_id P last first others x = elim (cases_eq x (key_of new j).id) [
    | inl e ↦ subst P (sym e) last
    | inr not_last ↦ elim (cases_eq x (key_of new i).id) [
      | inl e ↦ subst P (sym e) (first (λ same. not_last (e ∙ same)))
      | inr other ↦ others x other not_last
    ]
  ]

  -- the place of an id of neither is neither
  elsewhere : (x m : ℕ) → x ≢ (key_of new i).id → x ≢ (key_of new j).id → place_of p x ≡ Some m
      → (m < length keys) × (key_of new m ≡ key_of keys m) × ((key_of keys m).id ≡ x)
  elsewhere x m not_a not_b e =
      let h = t.held x m e in (
        h.0,
        sw.2 m (λ same. not_b (sym h.1 ∙ ap (λ n. (key_of keys n).id) same
            ∙ sym (ap (λ (k : Key). k.id) sw.1)))
            (λ same. not_a (sym h.1 ∙ ap (λ n. (key_of keys n).id) same
            ∙ sym (ap (λ (k : Key). k.id) sw.0))),
        h.1,
      )

  tied_held : (x m : ℕ) → place_of (exchanged p (key_of new i).id (key_of new j).id i j) x
      ≡ Some m → (m < length new) × ((key_of new m).id ≡ x)
  tied_held x =
      by_id (λ y. (m : ℕ) → place_of (exchanged p (key_of new i).id (key_of new j).id i j) y
      ≡ Some m → (m < length new) × ((key_of new m).id ≡ y))
      (λ m e.
      let at : m ≡ j = same_place m j
      (sym e ∙ at_last p _ _ i j (in_table p _ j a_was) (in_table p _ i b_was)) in
      (omega arith, ap (λ n. (key_of new n).id) at))
      (λ other m e.
      let at : m ≡ i = same_place m i
      (sym e ∙ at_first p _ _ i j (in_table p _ j a_was) (in_table p _ i b_was) other) in
      (omega arith, ap (λ n. (key_of new n).id) at))
      (λ y not_a not_b m e.
      let h = elsewhere y m not_a not_b
      (sym (at_others p _ _ i j (in_table p _ j a_was) (in_table p _ i b_was) y not_a not_b)
      ∙ e) in
      (omega (arith, h.0), ap (λ (k : Key). k.id) h.1 ∙ h.2))
      x

  pub exchanged_tied : Tied new (exchanged p (key_of new i).id (key_of new j).id i j)
  exchanged_tied = record { placed = tied_placed; held = tied_held }

  mapped : (x : ℕ) (o : Option ℕ) → x ≢ (key_of new i).id → x ≢ (key_of new j).id → place_of p x
      ≡ o → option_map (key_of new) o ≡ option_map (key_of keys) o
  mapped x None not_a not_b e = refl
  mapped x (Some m) not_a not_b e = ap Some (elsewhere x m not_a not_b e).1

  pub exchanged_same : (x : ℕ) → key_at new (exchanged p (key_of new i).id (key_of new j).id i j)
      x ≡ key_at keys p x
  exchanged_same = by_id (λ x. key_at new (exchanged p (key_of new i).id (key_of new j).id i j) x
      ≡ key_at keys p x)
      (ap (option_map (key_of new)) (at_last p _ _ i j (in_table p _ j a_was)
      (in_table p _ i b_was)) ∙ ap Some sw.1 ∙ sym (ap (option_map (key_of keys)) b_was))
      (λ other. ap (option_map (key_of new)) (at_first p _ _ i j (in_table p _ j a_was)
      (in_table p _ i b_was) other) ∙ ap Some sw.0 ∙ sym (ap (option_map (key_of keys)) a_was))
      (λ x not_a not_b. ap (option_map (key_of new))
      (at_others p _ _ i j (in_table p _ j a_was) (in_table p _ i b_was) x not_a not_b)
      ∙ mapped x (place_of p x) not_a not_b refl)

-- ---- one key more

pub free_place : (keys : List Key) (o : Option ℕ) → option_map (key_of keys) o ≡ None → o ≡ None
free_place keys None e = refl
free_place keys (Some i) e = absurd (some≢none (key_of keys i) e)

module _ (keys new : List Key) (p : Places) (k : Key) (t : Tied keys p) (inside : k.id < length p)
    (free : place_of p k.id ≡ None) (len : length new ≡ length keys + 1)
    (same : (i : ℕ) → i < length keys → key_of new i ≡ key_of keys i)
    (last : key_of new (length keys) ≡ k) where
  put_placed : (i : ℕ) → i < length new → place_of (slice_set p k.id (length keys + 1))
      (key_of new i).id ≡ Some i
  put_placed i i_in = elim (cases_lt i (length keys)) [
    | inl before ↦
        let was : place_of p (key_of new i).id ≡ Some i =
        ap (λ (x : Key). place_of p x.id) (same i before) ∙ t.placed i before in
        set_other p k.id (key_of new i).id (length keys + 1)
        (λ e. some≢none i (sym was ∙ ap (place_of p) e ∙ free)) ∙ was
    | inr past ↦
        let at : i ≡ length keys = omega arith in
        ap (λ n. place_of (slice_set p k.id (length keys + 1)) (key_of new n).id) at
        ∙ ap (λ (x : Key). place_of (slice_set p k.id (length keys + 1)) x.id) last
        ∙ written_here p k.id (length keys) inside ∙ ap Some (sym at)
  ]

  put_held : (x m : ℕ) → place_of (slice_set p k.id (length keys + 1)) x ≡ Some m
      → (m < length new) × ((key_of new m).id ≡ x)
  put_held x m e = elim (cases_eq x k.id) [
    | inl this ↦
        let at : m ≡ length keys = same_place m (length keys)
        (sym e ∙ ap (place_of (slice_set p k.id (length keys + 1))) this
        ∙ written_here p k.id (length keys) inside) in
        (omega arith, ap (λ n. (key_of new n).id) at ∙ ap (λ (y : Key). y.id) last ∙ sym this)
    | inr other ↦
        let h = t.held x m (sym (set_other p k.id x (length keys + 1) other) ∙ e) in
        (omega (arith, h.0), ap (λ (y : Key). y.id) (same m h.0) ∙ h.1)
  ]

  pub put_tied : Tied new (slice_set p k.id (length keys + 1))
  put_tied = record { placed = put_placed; held = put_held }

  put_kept : (x : ℕ) (o : Option ℕ) → place_of p x ≡ o → option_map (key_of new) o
      ≡ option_map (key_of keys) o
  put_kept x None e = refl
  put_kept x (Some m) e = ap Some (same m (t.held x m e).0)

  pub put_here : key_at new (slice_set p k.id (length keys + 1)) k.id ≡ Some k
  put_here = ap (option_map (key_of new)) (written_here p k.id (length keys) inside) ∙ ap Some last

  pub put_other : (x : ℕ) → x ≢ k.id → key_at new (slice_set p k.id (length keys + 1)) x
      ≡ key_at keys p x
  put_other x other = ap (option_map (key_of new)) (set_other p k.id x (length keys + 1) other)
      ∙ put_kept x (place_of p x) refl

-- ---- the last key goes

module _ (keys new : List Key) (p : Places) (id : ℕ) (t : Tied keys p)
    (len : length new + 1 ≡ length keys) (at_last : place_of p id ≡ Some (length new))
    (same : (i : ℕ) → i < length new → key_of new i ≡ key_of keys i) where
  last_out : (m x : ℕ) → x ≢ id → place_of p x ≡ Some m → m < length new
  last_out m x other e =
      let h = t.held x m e in
      let l = t.held id (length new) at_last in
      elim (cases_eq m (length new)) [
        | inl last ↦ absurd (other (sym h.1 ∙ ap (λ n. (key_of keys n).id) last ∙ l.1))
        | inr before ↦ omega (arith, h.0)
      ]

  cut_placed : (i : ℕ) → i < length new → place_of (slice_set p id 0) (key_of new i).id ≡ Some i
  cut_placed i i_in =
      let was : place_of p (key_of new i).id ≡ Some i =
      ap (λ (x : Key). place_of p x.id) (same i i_in) ∙ t.placed i (omega arith) in
      set_other p id (key_of new i).id 0
      (λ e. let at : i ≡ length new =
      same_place i (length new) (sym was ∙ ap (place_of p) e ∙ at_last) in omega arith) ∙ was

  cut_held : (x m : ℕ) → place_of (slice_set p id 0) x ≡ Some m → (m < length new)
      × ((key_of new m).id ≡ x)
  cut_held x m e = elim (cases_eq x id) [
    | inl this ↦ absurd (some≢none m (sym e ∙ ap (place_of (slice_set p id 0)) this
        ∙ emptied_here p id (in_table p id (length new) at_last)))
    | inr other ↦
        let was : place_of p x ≡ Some m = sym (set_other p id x 0 other) ∙ e in
        let m_in : m < length new = last_out m x other was in
        (m_in, ap (λ (y : Key). y.id) (same m m_in) ∙ (t.held x m was).1)
  ]

  pub cut_tied : Tied new (slice_set p id 0)
  cut_tied = record { placed = cut_placed; held = cut_held }

  pub cut_here : key_at new (slice_set p id 0) id ≡ None
  cut_here = ap (option_map (key_of new)) (emptied_here p id (in_table p id (length new) at_last))

  cut_kept : (x : ℕ) (o : Option ℕ) → x ≢ id → place_of p x ≡ o → option_map (key_of new) o
      ≡ option_map (key_of keys) o
  cut_kept x None other e = refl
  cut_kept x (Some m) other e = ap Some (same m (last_out m x other e))

  pub cut_other : (x : ℕ) → x ≢ id → key_at new (slice_set p id 0) x ≡ key_at keys p x
  cut_other x other = ap (option_map (key_of new)) (set_other p id x 0 other)
      ∙ cut_kept x (place_of p x) other refl

-- an element by another default
pub other_default : {X : Type 0} (xs : List X) (k : ℕ) (d e : X) → k < length xs
    → slice_index_or xs k d ≡ slice_index_or xs k e
other_default [] k d e inside = absurd (omega arith)
other_default (x ∷ xs) zero d e inside = refl
other_default (x ∷ xs) (suc k) d e inside = other_default xs k d e (omega arith)

pub first_in : (keys new : List Key) (p : Places) (i j : ℕ) (x : Key) → i < length keys → j
    < length keys → Tied keys p → length new ≡ length keys → SwappedAt keys new i j → x
    ≡ slice_index_or new i x
    → x.id < length p
first_in keys new p i j x i_in j_in t len by x_is =
    let x_at : x ≡ key_of keys j = x_is ∙ by.0 x ∙ other_default keys j x no_key j_in in
    in_table p x.id j (ap (λ (k : Key). place_of p k.id) x_at ∙ t.placed j j_in)

-- what an exchange writes, where x and y are read from the two places
module _ (keys new : List Key) (p : Places) (i j : ℕ) (x y : Key) (i_in : i < length keys)
    (j_in : j < length keys) (t : Tied keys p) (len : length new ≡ length keys)
    (by : SwappedAt keys new i j) (x_is : x ≡ slice_index_or new i x)
    (y_is : y ≡ slice_index_or new j y) where
  swapped : Swapped (key_of keys) (key_of new) i j
  swapped = (by.0 no_key, by.1 no_key, λ m. by.2 m no_key)

  x_at : key_of new i ≡ x
  x_at = sym (x_is ∙ other_default new i x no_key (omega arith))

  y_at : key_of new j ≡ y
  y_at = sym (y_is ∙ other_default new j y no_key (omega arith))

  pub last_in : y.id < length (slice_set p x.id (i + 1))
  last_in = let was : y.id < length p = in_table p y.id i
      (ap (λ (k : Key). place_of p k.id) (sym y_at)
      ∙ b_was keys new p i j i_in j_in t len swapped) in
      omega (arith, length-set {A = ℕ})

  pub now_tied : Tied new (exchanged p x.id y.id i j)
  now_tied = subst (λ (k : Key). Tied new (exchanged p k.id y.id i j)) x_at
      (subst (λ (k : Key). Tied new (exchanged p (key_of new i).id k.id i j)) y_at
      (exchanged_tied keys new p i j i_in j_in t len swapped))

  pub now_same : (id : ℕ) → key_at new (exchanged p x.id y.id i j) id ≡ key_at keys p id
  now_same = subst (λ (k : Key). (id : ℕ) → key_at new (exchanged p k.id y.id i j) id
      ≡ key_at keys p id) x_at
      (subst (λ (k : Key). (id : ℕ) → key_at new (exchanged p (key_of new i).id k.id i j) id
      ≡ key_at keys p id) y_at (exchanged_same keys new p i j i_in j_in t len swapped))
