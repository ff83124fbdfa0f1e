-- A walk over an old list beside a new one that is a part of it, and then fresh items.
use Rattle.std.proofs.Common.{◌≡◌, ℕ, zero, suc, ◌+◌, ◌-◌, ◌<◌, List, [], ◌∷◌, ◌++◌, length}
use Rattle.std.proofs.Common.{get_or, drop, ap, sym, ◌∙◌, subst, arith, Bool, true, false, inl}
use Rattle.std.proofs.Common.{inr}
use Rattle.std.specs.List.{filter}
use Rattle.std.proofs.lemmas.Bool.{cond-true, cond-false, or_left, or_right, cases_Bool}
use Rattle.std.proofs.lemmas.List.{drop_more, length-drop, get_or-drop}
use Rattle.bl_mods.specs.declared.mods.ItemId.{ItemId}
use Rattle.bl_mods.specs.Mods.{gone_from, has_id, same_id, IsItemAt}
use Rattle.bl_mods.proofs.Relisting.{same_id-self}

pub has_id_at : {C : Type 0} (id_of : C → ItemId) (id : ItemId) (list : List C) (i : ℕ)
    → IsItemAt id_of list i id → has_id id_of id list ≡ true
has_id_at id_of id [] i h = absurd (let b = h.0 in omega (arith, b))
has_id_at id_of id (x ∷ list) zero h = or_left (same_id (id_of x) id) (has_id id_of id list)
    (subst (λ (k : ItemId). same_id (id_of x) k ≡ true) (h.1 x) (same_id-self (id_of x)))
has_id_at id_of id (x ∷ list) (suc i) h =
    let b = h.0 in
    or_right (same_id (id_of x) id) (has_id id_of id list)
    (has_id_at id_of id list i (omega (arith, b), λ d. h.1 d))

pub gone_keeps : {C : Type 0} (id_of : C → ItemId) (at : ℕ) (old new : List C) (x : C) → at
    < length old → x ≡ get_or old at x → has_id id_of (id_of x) new ≡ true
    → gone_from id_of at (drop at old) new ≡ gone_from id_of (at + 1) (drop (at + 1) old) new
gone_keeps {C} id_of at old new x h e has =
    ap (λ (l : List C). gone_from id_of at l new)
    (drop_more old at x h ∙ ap (λ (z : C). z ∷ drop (at + 1) old) (sym e))
    ∙ cond-true (has_id id_of (id_of x) new) _ _ has

pub gone_drops : {C : Type 0} (id_of : C → ItemId) (at : ℕ) (old new : List C) (x : C) → at
    < length old → x ≡ get_or old at x → has_id id_of (id_of x) new ≡ false
    → gone_from id_of at (drop at old) new ≡ at ∷ gone_from id_of (at + 1) (drop (at + 1) old) new
gone_drops {C} id_of at old new x h e has =
    ap (λ (l : List C). gone_from id_of at l new)
    (drop_more old at x h ∙ ap (λ (z : C). z ∷ drop (at + 1) old) (sym e))
    ∙ cond-false (has_id id_of (id_of x) new) _ _ has

filter_keeps : {C : Type 0} (p : C → Bool) (at : ℕ) (old : List C) (x : C) → at < length old → x
    ≡ get_or old at x → p x ≡ true → filter p (drop at old) ≡ x ∷ filter p (drop (at + 1) old)
filter_keeps {C} p at old x h e has =
    ap (filter p) (drop_more old at x h ∙ ap (λ (z : C). z ∷ drop (at + 1) old) (sym e))
    ∙ cond-true (p x) _ _ has

filter_drops : {C : Type 0} (p : C → Bool) (at : ℕ) (old : List C) (x : C) → at < length old → x
    ≡ get_or old at x → p x ≡ false → filter p (drop at old) ≡ filter p (drop (at + 1) old)
filter_drops {C} p at old x h e has =
    ap (filter p) (drop_more old at x h ∙ ap (λ (z : C). z ∷ drop (at + 1) old) (sym e))
    ∙ cond-false (p x) _ _ has

pub left_keeps : {C : Type 0} (p : C → Bool) (at next : ℕ) (old new fresh : List C) (x : C) → at
    < length old → next < length new → x ≡ get_or old at x → p x ≡ true
    → drop next new ≡ filter p (drop at old) ++ fresh → drop (next + 1) new
    ≡ filter p (drop (at + 1) old) ++ fresh
left_keeps {C} p at next old new fresh x h n e has left =
    let a : drop next new ≡ get_or new next x ∷ drop (next + 1) new = drop_more new next x n in
    let b : filter p (drop at old) ++ fresh ≡ x ∷ (filter p (drop (at + 1) old) ++ fresh) =
    ap (λ (l : List C). l ++ fresh) (filter_keeps p at old x h e has) in
    cc

pub left_drops : {C : Type 0} (p : C → Bool) (at next : ℕ) (old new fresh : List C) (x : C) → at
    < length old → x ≡ get_or old at x → p x ≡ false
    → drop next new ≡ filter p (drop at old) ++ fresh → drop next new
    ≡ filter p (drop (at + 1) old) ++ fresh
left_drops {C} p at next old new fresh x h e has left =
    left ∙ ap (λ (l : List C). l ++ fresh) (filter_drops p at old x h e has)

-- an item that stays is the next one of the new list
must_be_next : {C : Type 0} (id_of : C → ItemId) (p : C → Bool) (at next : ℕ)
    (old new fresh : List C) (x : C) → at < length old → x ≡ get_or old at x → p x ≡ true
    → drop next new ≡ filter p (drop at old) ++ fresh → IsItemAt id_of new next (id_of x)
must_be_next {C} id_of p at next old new fresh x h e has left =
    let b : drop next new ≡ x ∷ (filter p (drop (at + 1) old) ++ fresh) =
    left ∙ ap (λ (l : List C). l ++ fresh) (filter_keeps p at old x h e has) in
    let len : length (drop next new) ≡ length new - next = length-drop next new in
    let more : length (drop next new) ≡ suc (length (filter p (drop (at + 1) old) ++ fresh)) =
    ap length b in
    let zero_more : next + 0 ≡ next = omega arith in
    let first = λ (d : C). sym (ap (λ (k : ℕ). get_or new k d) zero_more)
    ∙ (sym (get_or-drop next new 0 d) ∙ ap (λ (l : List C). get_or l 0 d) b) in
    (omega (arith, len, more), λ d. ap id_of (first d))

pub not_next : {C : Type 0} (id_of : C → ItemId) (at next : ℕ) (old new fresh : List C) (x : C)
    → at < length old → x ≡ get_or old at x
    → drop next new ≡ filter (λ y. has_id id_of (id_of y) new) (drop at old) ++ fresh
    → (IsItemAt id_of new next (id_of x) → ⊥) → has_id id_of (id_of x) new ≡ false
not_next {C} id_of at next old new fresh x h e left elsewhere =
    elim (cases_Bool (has_id id_of (id_of x) new)) [
      | inl t ↦ absurd
          (elsewhere (must_be_next id_of (λ y. has_id id_of (id_of y) new) at next old new fresh x
          h e t left))
      | inr f ↦ f
    ]
