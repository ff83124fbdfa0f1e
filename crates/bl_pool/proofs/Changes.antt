-- A key put in, and a key taken out.
use Rattle.std.proofs.Common.{◌≡◌, ◌≢◌, ◌<◌, ◌≤◌, ◌+◌, ◌==◌, inl, inr, ℕ, false, arith, refl, sym}
use Rattle.std.proofs.Common.{ap, ap₂, subst, ◌∙◌, List, [], ◌∷◌, ◌++◌, length, zero, suc, Option}
use Rattle.std.proofs.Common.{Some, None}
use Rattle.std.specs.Prelude.{option_map, if◌then◌else◌, slice_index_or, slice_set}
use Rattle.std.proofs.lemmas.Bool.{cases_eq, eq-eqb, ne_eqb}
use Rattle.std.proofs.lemmas.List.{length-append}
use Rattle.bl_pool.specs.declared.key.Key.{Key}
use Rattle.bl_pool.specs.declared.key.Order.{Order}
use Rattle.bl_pool.specs.Orders.{before}
use Rattle.std.specs.Prelude.{replicate, slice_get, IfSome}
use Rattle.bl_pool.specs.Views.{IsFirst}
use Rattle.bl_pool.specs.Heaps.{table_of, Heap, Loose, Tied, Up, parent, key_at, key_of, no_key}
use Rattle.bl_pool.specs.Heaps.{place_of}
use Rattle.bl_pool.proofs.HeapSteps.{cut_loose, least_first, pushed_up}
use Rattle.bl_pool.proofs.Tables.{some≢none, Places, cut_here, cut_other, cut_tied, free_place}
use Rattle.bl_pool.proofs.Tables.{put_here, put_other, put_tied}

append_before : {X : Type 0} (xs ys : List X) (i : ℕ) (d : X) → i < length xs
    → slice_index_or (xs ++ ys) i d ≡ slice_index_or xs i d
append_before [] ys i d inside = absurd (omega arith)
append_before (x ∷ xs) ys zero d inside = refl
append_before (x ∷ xs) ys (suc i) d inside = append_before xs ys i d (omega arith)

append_at : {X : Type 0} (xs : List X) (y : X) (d : X) → slice_index_or (xs ++ y ∷ []) (length xs)
    d ≡ y
append_at [] y d = refl
append_at (x ∷ xs) y d = append_at xs y d

by_test : {X : Type 0} (x y : ℕ) (a b c : X) → (x ≡ y → c ≡ a) → (x ≢ y → c ≡ b) → c
    ≡ (if x == y then a else b)
by_test x y a b c same other = elim (cases_eq x y) [
  | inl e ↦ same e ∙ ap (λ t. if t then a else b) (sym (eq-eqb x y e))
  | inr e ↦ other e ∙ ap (λ t. if t then a else b) (sym (ne_eqb x y e))
]

module _ (o : Order) (keys new : List Key) (p : Places) (k : Key) (at : ℕ)
    (at_is : at ≡ length keys) (t : Tied keys p) (inside : k.id < length p)
    (free : key_at keys p k.id ≡ None)
    (pushed : new ≡ keys ++ k ∷ []) where
  abbrev filled : Places
  filled = slice_set p k.id (at + 1)

  abbrev at_end : Places
  at_end = slice_set p k.id (length keys + 1)

  same_end : at_end ≡ filled
  same_end = ap (λ n. slice_set p k.id (n + 1)) (sym at_is)

  len : length new ≡ length keys + 1
  len = ap length pushed ∙ length-append keys (k ∷ [])

  same : (i : ℕ) → i < length keys → key_of new i ≡ key_of keys i
  same i i_in = ap (λ (xs : List Key). key_of xs i) pushed
      ∙ append_before keys (k ∷ []) i no_key i_in

  last : key_of new (length keys) ≡ k
  last = ap (λ (xs : List Key). key_of xs (length keys)) pushed ∙ append_at keys k no_key

  pub filled_tied : Tied new filled
  filled_tied = subst (Tied new) same_end
      (put_tied keys new p k t inside (free_place keys (place_of p k.id) free) len same last)

  pub filled_up : Heap o (key_of keys) (length keys) → Up o (key_of new) (length new) at
  filled_up heap = subst (λ n. Up o (key_of new) n at) (sym len)
      (subst (λ n. Up o (key_of new) (length keys + 1) n) (sym at_is)
      (pushed_up o (key_of keys) (key_of new) (length keys) heap same))

  pub filled_keys : (x : ℕ) → key_at new filled x ≡ (if x == k.id then Some k else key_at keys p x)
  filled_keys x = by_test x k.id (Some k) (key_at keys p x) (key_at new filled x)
      (λ e. ap (λ (q : Places). key_at new q x) (sym same_end) ∙ ap (key_at new at_end) e
      ∙ put_here keys new p k t inside (free_place keys (place_of p k.id) free) len same last)
      (λ e. ap (λ (q : Places). key_at new q x) (sym same_end)
      ∙ put_other keys new p k t inside (free_place keys (place_of p k.id) free) len same last
      x e)

module _ (o : Order) (keys mid new more : List Key) (p q : Places) (id at last : ℕ)
    (t : Tied keys p) (heap : Heap o (key_of keys) (length keys)) (held : place_of p id ≡ Some at)
    (last_is : last + 1 ≡ length keys) (tq : Tied mid q)
    (same : (x : ℕ) → key_at mid q x ≡ key_at keys p x)
    (at_j : key_of mid last ≡ key_of keys at)
    (others : (k : ℕ) → (k ≡ at → ⊥) → (k ≡ last → ⊥) → key_of mid k ≡ key_of keys k)
    (len_mid : length mid ≡ length keys) (popped : mid ≡ new ++ more)
    (len_new : length new + 1 ≡ length mid) where
  end : length new ≡ last
  end = omega arith

  now_last : place_of q id ≡ Some (length new)
  now_last = ap (place_of q) (sym (ap (λ (k : Key). k.id) at_j ∙ (t.held id at held).1))
      ∙ tq.placed last (omega arith) ∙ ap Some (sym end)

  front : (i : ℕ) → i < length new → key_of new i ≡ key_of mid i
  front i i_in = sym (ap (λ (xs : List Key). key_of xs i) popped
      ∙ append_before new more i no_key i_in)

  pub out_tied : Tied new (slice_set q id 0)
  out_tied = cut_tied mid new q id tq len_new now_last front

  pub out_loose : at < last → Loose o (key_of new) (length new) at
  out_loose inside = cut_loose o (key_of keys) (key_of new) (length new) at (omega (arith, end))
      (subst (Heap o (key_of keys)) (sym (ap (λ n. n + 1) end ∙ last_is)) heap)
      (λ i i_in other. front i i_in ∙ others i other (λ e. omega (arith, end)))

  pub out_heap : last ≤ at → Heap o (key_of new) (length new)
  out_heap past = record {
    ordered = λ i i_pos i_in.
        let kept : (m : ℕ) → m ≤ i → key_of new m ≡ key_of keys m =
        λ m le. front m (omega arith)
        ∙ others m (λ e. omega (arith, end)) (λ e. omega (arith, end)) in
        ap₂ (before o) (kept i (omega arith)) (kept (parent i) (omega arith))
        ∙ heap.ordered i i_pos (omega (arith, end));
  }

  pub out_keys : (x : ℕ) → key_at new (slice_set q id 0) x
      ≡ (if x == id then None else key_at keys p x)
  out_keys x = by_test x id None (key_at keys p x) (key_at new (slice_set q id 0) x)
      (λ e. ap (key_at new (slice_set q id 0)) e ∙ cut_here mid new q id tq len_new now_last front)
      (λ e. cut_other mid new q id tq len_new now_last front x e ∙ same x)

-- ---- the table that contracts see

pub table_key : (keys : List Key) (p : Places) (id : ℕ) → slice_index_or (table_of keys p) id None
    ≡ key_at keys p id
table_key keys [] id = refl
table_key keys (o ∷ p) zero = refl
table_key keys (o ∷ p) (suc id) = table_key keys p id

grown_place : (p : Places) (n id : ℕ) → place_of (p ++ replicate n 0) id ≡ place_of p id
grown_place [] zero id = refl
grown_place [] (suc n) zero = refl
grown_place [] (suc n) (suc id) = grown_place [] n id
grown_place (o ∷ p) n zero = refl
grown_place (o ∷ p) n (suc id) = grown_place p n id

pub grown_key : (keys : List Key) (p q : Places) (n id : ℕ) → q ≡ p ++ replicate n 0
    → slice_index_or (table_of keys q) id None ≡ slice_index_or (table_of keys p) id None
grown_key keys p q n id is = table_key keys q id
    ∙ ap (option_map (key_of keys)) (ap (λ (x : Places). place_of x id) is ∙ grown_place p n id)
    ∙ sym (table_key keys p id)

-- the first of a heap
pub first_is : (o : Order) (keys : List Key) (p : Places) (room : ℕ) (k : Key) → Tied keys p
    → Heap o (key_of keys) (length keys) → 0 < length keys → k ≡ key_of keys 0
    → IsFirst (record { order = o; keys = table_of keys p; room = room }) k
first_is o keys p room k t heap some is = record {
  held = table_key keys p k.id ∙ ap (option_map (key_of keys))
      (ap (λ (x : Key). place_of p x.id) is ∙ t.placed 0 some) ∙ ap Some (sym is);
  least = λ id other e. least_at id other (place_of p id) refl (sym (table_key keys p id) ∙ e);
}
  where
    least_at : (id : ℕ) (other : Key) (q : Option ℕ) → place_of p id ≡ q
        → option_map (key_of keys) q ≡ Some other → before o other k ≡ false
    least_at id other None at e = absurd (some≢none other (sym e))
    least_at id other (Some i) at e =
        let other_is : key_of keys i ≡ other = cc in
        ap₂ (before o) (sym other_is) is ∙ least_first o (key_of keys) (length keys) heap i
        (t.held id i at).0

pub none_held : (keys : List Key) (p : Places) → Tied keys p → length keys ≡ 0 → (id : ℕ)
    → slice_index_or (table_of keys p) id None ≡ None
none_held keys p t empty id = table_key keys p id ∙ none_at (place_of p id) refl
  where
    none_at : (q : Option ℕ) → place_of p id ≡ q → option_map (key_of keys) q ≡ None
    none_at None at = refl
    none_at (Some i) at = absurd (omega (arith, (t.held id i at).0))

pub first_some : (o : Order) (keys : List Key) (p : Places) (room : ℕ) (r : Option Key)
    → Tied keys p → Heap o (key_of keys) (length keys) → r ≡ slice_get keys 0
    → IfSome r (λ k. IsFirst (record { order = o; keys = table_of keys p; room = room }) k)
first_some o [] p room r t heap is = subst
    (λ (x : Option Key). IfSome x (λ k. IsFirst
    (record { order = o; keys = table_of [] p; room = room }) k)) (sym is) tt
first_some o (k ∷ keys) p room r t heap is =
    subst (λ (x : Option Key). IfSome x (λ y. IsFirst
    (record { order = o; keys = table_of (k ∷ keys) p; room = room }) y)) (sym is)
    (first_is o (k ∷ keys) p room k t heap (omega arith) refl)

pub first_none : (keys : List Key) (p : Places) (r : Option Key) → Tied keys p → r
    ≡ slice_get keys 0 → r ≡ None → (id : ℕ) → slice_index_or (table_of keys p) id None ≡ None
first_none [] p r t is none = none_held [] p t refl
first_none (k ∷ keys) p r t is none = absurd (some≢none k (sym is ∙ none))
