-- One step of a key up or down a heap.
use Rattle.std.proofs.Common.{◌≡◌, ◌<◌, ◌+◌, ◌*◌, inl, inr, ℕ, true, false, arith, sym, ap, ap₂}
use Rattle.std.proofs.Common.{subst, ◌∙◌, zero, suc}
use Rattle.std.proofs.lemmas.Bool.{cases_eq}
use Rattle.std.proofs.lemmas.List.Edits.{Swapped}
use Rattle.bl_pool.specs.declared.key.Key.{Key}
use Rattle.bl_pool.specs.declared.key.Order.{Order}
use Rattle.bl_pool.specs.Orders.{before}
use Rattle.bl_pool.specs.Heaps.{Down, Heap, Loose, Ordered, Up, parent}
use Rattle.bl_pool.proofs.OrderLaws.{back, self, trans}

-- an order of two keys, under equal names
at_same : (o : Order) (x y u v : Key) → x ≡ u → y ≡ v → before o v u ≡ false → before o y x ≡ false
at_same o x y u v e k h = ap₂ (before o) k e ∙ h

module _ (o : Order) (f g : ℕ → Key) (n hole : ℕ) where
  -- up to the parent
  pub up_step : 0 < hole → hole < n → Up o f n hole → before o (f hole) (f (parent hole)) ≡ true
      → Swapped f g hole (parent hole) → Up o g n (parent hole)
  up_step pos inside up lower sw =
      let p : ℕ = parent hole in
      let now : Ordered o f hole p = back o (f hole) (f p) lower in
      record {
        others = λ i i_pos i_in other. elim (cases_eq i hole) [
          | inl here ↦ at_same o (g (parent i)) (g i) (f hole) (f p)
              (ap (λ j. g (parent j)) here ∙ sw.1) (ap g here ∙ sw.0) now
          | inr elsewhere ↦ elim (cases_eq (parent i) hole) [
            | inl child ↦ at_same o (g (parent i)) (g i) (f p) (f i) (ap g child ∙ sw.0)
                (sw.2 i elsewhere other) (up.across i i_pos i_in pos child)
            | inr far ↦ elim (cases_eq (parent i) p) [
              | inl sibling ↦ at_same o (g (parent i)) (g i) (f hole) (f i) (ap g sibling ∙ sw.1)
                  (sw.2 i elsewhere other)
                  (trans o (f hole) (f p) (f i) now
                  (subst (λ j. Ordered o f j i) sibling (up.others i i_pos i_in elsewhere)))
              | inr free ↦ at_same o (g (parent i)) (g i) (f (parent i)) (f i)
                  (sw.2 (parent i) far free) (sw.2 i elsewhere other)
                  (up.others i i_pos i_in elsewhere)
            ]
          ]
        ];
        across = λ i i_pos i_in p_pos child.
            let top : g (parent p) ≡ f (parent p) = sw.2 (parent p) (omega arith) (omega arith) in
            let above : Ordered o f (parent p) p = up.others p p_pos (omega arith) (omega arith) in
            elim (cases_eq i hole) [
              | inl here ↦ at_same o (g (parent p)) (g i) (f (parent p)) (f p) top
                  (ap g here ∙ sw.0) above
              | inr elsewhere ↦ at_same o (g (parent p)) (g i) (f (parent p)) (f i) top
                  (sw.2 i elsewhere (λ e. omega arith))
                  (trans o (f (parent p)) (f p) (f i) above
                  (subst (λ j. Ordered o f j i) child (up.others i i_pos i_in elsewhere)))
            ];
      }

  pub up_done : Up o f n hole → (0 < hole → Ordered o f (parent hole) hole) → Heap o f n
  up_done up at = record {
    ordered = λ i i_pos i_in. elim (cases_eq i hole) [
      | inl here ↦ subst (λ j. Ordered o f (parent j) j) (sym here) (at (omega arith))
      | inr other ↦ up.others i i_pos i_in other
    ];
  }

  -- down to a child before which the other child does not come
  pub down_step : (child : ℕ) → 0 < child → child < n → parent child ≡ hole → Down o f n hole
      → before o (f child) (f hole) ≡ true
      → ((i : ℕ) → 0 < i → i < n → parent i ≡ hole → Ordered o f child i) → Swapped f g hole child
      → Down o g n child
  down_step child c_pos c_in of down lower least sw =
      let now : Ordered o f child hole = back o (f child) (f hole) lower in
      record {
        others = λ i i_pos i_in other. elim (cases_eq (parent i) hole) [
          | inl brother ↦ elim (cases_eq i child) [
            | inl here ↦ at_same o (g (parent i)) (g i) (f child) (f hole) (ap g brother ∙ sw.0)
                (ap g here ∙ sw.1) now
            | inr elsewhere ↦ at_same o (g (parent i)) (g i) (f child) (f i) (ap g brother ∙ sw.0)
                (sw.2 i (omega arith) elsewhere) (least i i_pos i_in brother)
          ]
          | inr far ↦ elim (cases_eq i hole) [
            | inl here ↦ at_same o (g (parent i)) (g i) (f (parent i)) (f child)
                (sw.2 (parent i) far other) (ap g here ∙ sw.0)
                (subst (λ j. Ordered o f (parent j) child) (sym here)
                (down.across child c_pos c_in (omega arith) of))
            | inr elsewhere ↦ at_same o (g (parent i)) (g i) (f (parent i)) (f i)
                (sw.2 (parent i) far other)
                (sw.2 i elsewhere (λ e. far (ap parent e ∙ of))) (down.others i i_pos i_in far)
          ]
        ];
        across = λ i i_pos i_in _ below.
            let up_here : g (parent child) ≡ f child = ap g of ∙ sw.0 in
            at_same o (g (parent child)) (g i) (f child) (f i) up_here
            (sw.2 i (omega arith) (omega arith))
            (subst (λ j. Ordered o f j i) below (down.others i i_pos i_in (omega arith)));
      }

  pub down_done : Down o f n hole
      → ((i : ℕ) → 0 < i → i < n → parent i ≡ hole → Ordered o f hole i) → Heap o f n
  down_done down at = record {
    ordered = λ i i_pos i_in. elim (cases_eq (parent i) hole) [
      | inl here ↦ subst (λ j. Ordered o f j i) (sym here) (at i i_pos i_in here)
      | inr other ↦ down.others i i_pos i_in other
    ];
  }

  pub loose_up : 0 < hole → Loose o f n hole → before o (f hole) (f (parent hole)) ≡ true
      → Up o f n hole
  loose_up pos loose lower = record {
    others = λ i i_pos i_in other. elim (cases_eq (parent i) hole) [
      | inl child ↦ subst (λ j. Ordered o f j i) (sym child)
          (trans o (f hole) (f (parent hole)) (f i) (back o (f hole) (f (parent hole)) lower)
          (loose.across i i_pos i_in pos child))
      | inr far ↦ loose.others i i_pos i_in other far
    ];
    across = loose.across;
  }

  pub loose_down : Loose o f n hole → (0 < hole → Ordered o f (parent hole) hole) → Down o f n hole
  loose_down loose at = record {
    others = λ i i_pos i_in far. elim (cases_eq i hole) [
      | inl here ↦ subst (λ j. Ordered o f (parent j) j) (sym here) (at (omega arith))
      | inr other ↦ loose.others i i_pos i_in other far
    ];
    across = loose.across;
  }

-- no key comes before the first of a heap
least_below : (o : Order) (f : ℕ → Key) (n m : ℕ) → Heap o f n → (i : ℕ) → i < m → i < n
    → Ordered o f 0 i
least_below o f n zero heap i lt i_in = absurd (omega arith)
least_below o f n (suc m) heap i lt i_in = elim (cases_eq i 0) [
  | inl first ↦ subst (λ j. Ordered o f 0 j) (sym first) (self o (f 0))
  | inr later ↦ trans o (f 0) (f (parent i)) (f i)
      (least_below o f n m heap (parent i) (omega arith) (omega arith))
      (heap.ordered i (omega arith) i_in)
]

pub least_first : (o : Order) (f : ℕ → Key) (n : ℕ) → Heap o f n → (i : ℕ) → i < n → Ordered o f 0 i
least_first o f n heap i i_in = least_below o f n (suc i) heap i (omega arith) i_in

-- a heap with one more key at its end
pub pushed_up : (o : Order) (f g : ℕ → Key) (n : ℕ) → Heap o f n → ((i : ℕ) → i < n → g i ≡ f i)
    → Up o g (n + 1) n
pushed_up o f g n heap same = record {
  others = λ i i_pos i_in other. at_same o (g (parent i)) (g i) (f (parent i)) (f i)
      (same (parent i) (omega arith)) (same i (omega arith)) (heap.ordered i i_pos (omega arith));
  across = λ i i_pos i_in n_pos child. absurd (omega arith);
}

-- a heap whose last key has taken the place of another
pub cut_loose : (o : Order) (f g : ℕ → Key) (n hole : ℕ) → hole < n → Heap o f (n + 1)
    → ((i : ℕ) → i < n → (i ≡ hole → ⊥) → g i ≡ f i) → Loose o g n hole
cut_loose o f g n hole inside heap same = record {
  others = λ i i_pos i_in other far. at_same o (g (parent i)) (g i) (f (parent i)) (f i)
      (same (parent i) (omega arith) far) (same i i_in other) (heap.ordered i i_pos (omega arith));
  across = λ i i_pos i_in h_pos child. at_same o (g (parent hole)) (g i) (f (parent hole)) (f i)
      (same (parent hole) (omega arith) (omega arith)) (same i i_in (omega arith))
      (trans o (f (parent hole)) (f hole) (f i) (heap.ordered hole h_pos (omega arith))
      (subst (λ j. Ordered o f j i) child (heap.ordered i i_pos (omega arith))));
}

-- the right child comes before both
pub right_least : (o : Order) (f : ℕ → Key) (at i : ℕ) → 0 < i → parent i ≡ at
    → before o (f (2 * at + 1 + 1)) (f (2 * at + 1)) ≡ true → Ordered o f (2 * at + 1 + 1) i
right_least o f at i i_pos child lower = elim (cases_eq i (2 * at + 1)) [
  | inl left ↦ subst (λ j. Ordered o f (2 * at + 1 + 1) j) (sym left)
      (back o (f (2 * at + 1 + 1)) (f (2 * at + 1)) lower)
  | inr other ↦
      let right : i ≡ 2 * at + 1 + 1 = omega arith in
      subst (λ j. Ordered o f (2 * at + 1 + 1) j) (sym right) (self o (f (2 * at + 1 + 1)))
]

-- where the child that comes first does not come before the key, none does
pub down_stop : (o : Order) (f : ℕ → Key) (n hole child : ℕ) → Down o f n hole
    → before o (f child) (f hole) ≡ false
    → ((i : ℕ) → 0 < i → i < n → parent i ≡ hole → Ordered o f child i) → Heap o f n
down_stop o f n hole child down above least =
    down_done o f f n hole down (λ i i_pos i_in of. trans o (f hole) (f child) (f i) above
    (least i i_pos i_in of))
