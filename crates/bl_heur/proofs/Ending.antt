-- A dive ends: each turn leaves fewer columns of more than one value.
use Rattle.std.proofs.Common.{◌≡◌, ℕ, zero, suc, ◌+◌, ◌<◌, ◌≤◌, ℤ, pos, ◌≤ℤ◌, ◌<ℤ◌, arith, List}
use Rattle.std.proofs.Common.{[], ◌∷◌, length, Option, Some, None, Bool, true, false, cond, refl}
use Rattle.std.proofs.Common.{sym, ◌∙◌, ap, int_lt, ⊎_elim, slice_set}
use Rattle.std.specs.Int.{int_max, int_min}
use Rattle.std.proofs.lemmas.Int.{ints, clamps}
use Rattle.std.proofs.lemmas.Bool.{cases_lt}
use Rattle.std.proofs.lemmas.List.{get_or-set_same, get_or-set_other, length-set}
use native.Mathlib.Decide.{ℕ_discrete}
use Rattle.bl_num.specs.Exact.{at}
use Rattle.bl_problem.specs.Program.{Program}
use Rattle.bl_problem.specs.Decisions.{Box, narrowed_at, narrowed_all}
use Rattle.bl_problem.specs.declared.cut.Cut.{Cut}
use Rattle.bl_problem.specs.declared.decision.Decision.{Decision}
use Rattle.bl_problem.specs.declared.decision.Side.{Side}
use Rattle.bl_problem.specs.declared.decision.Side.TheVariants.{AtLeast, AtMost}
use Rattle.bl_desc.specs.declared.desc.Desc.{Desc}
use Rattle.bl_prop.specs.declared.tightening.Tightened.{Tightened}
use Rattle.bl_prop.specs.declared.tightening.Tightened.TheVariants.{Empty, Changed, Same}
use Rattle.bl_prop.specs.Answers.{tightened_of}
use Rattle.bl_heur.specs.Dives.{box_of, narrowed, at_low, first_free, after_pass, after_passes}
use Rattle.bl_heur.specs.Dives.{after_choice, propagated, dived, DivesEnd}
use Rattle.bl_heur.proofs.Free.{first_free-inside, first_free-wide}

by_place : {P : Type 0} (j k : ℕ) → (j ≡ k → P) → (¬ (j ≡ k) → P) → P
by_place j k f g = elim (ℕ_discrete j k) [ yes e ↦ f e | no d ↦ g d ]

set-past : (xs : List ℤ) (j : ℕ) (v : ℤ) → length xs ≤ j → slice_set xs j v ≡ xs
set-past [] j v l = refl
set-past (x ∷ xs) zero v l = absurd (omega (arith, l))
set-past (x ∷ xs) (suc j) v l = ap (λ (ys : List ℤ). x ∷ ys) (set-past xs j v (omega (arith, l)))

-- a written entry is the value, or there was none
set-at : (xs : List ℤ) (j k : ℕ) (v : ℤ) (P : ℤ → Type 0) → P (at xs k) → (j ≡ k → P v)
    → P (at (slice_set xs j v) k)
set-at xs j k v P here new = by_place j k
    (λ e. ⊎_elim
    (λ l. rw (sym e, get_or-set_same xs j v (pos 0) l) (new e))
    (λ l. rw (set-past xs j v l) here)
    (cases_lt j (length xs)))
    (λ d. rw (get_or-set_other xs j k v (pos 0) (λ e. d (sym e))) here)

-- ---- the bounds only move inward
record Inward (a b : Box) : Type 0 where
  low_width : length b.lows ≡ length a.lows
  high_width : length b.highs ≡ length a.highs
  lows : (k : ℕ) → at a.lows k ≤ℤ at b.lows k
  highs : (k : ℕ) → at b.highs k ≤ℤ at a.highs k

inward_at : (s : Side) (b : Box) (j : ℕ) (v : ℤ) → Inward b (narrowed_at s b j v)
inward_at AtLeast b j v = record {
  low_width = length-set b.lows j (int_max (at b.lows j) v);
  high_width = refl;
  lows = λ k. set-at b.lows j k (int_max (at b.lows j) v) (λ z. at b.lows k ≤ℤ z)
      (omega (arith, ints)) (λ e. rw e (omega (arith, ints, clamps)));
  highs = λ k. omega (arith, ints);
}
inward_at AtMost b j v = record {
  low_width = refl;
  high_width = length-set b.highs j (int_min (at b.highs j) v);
  lows = λ k. omega (arith, ints);
  highs = λ k. set-at b.highs j k (int_min (at b.highs j) v) (λ z. z ≤ℤ at b.highs k)
      (omega (arith, ints)) (λ e. rw e (omega (arith, ints, clamps)));
}

inward_then : (a b c : Box) → Inward a b → Inward b c → Inward a c
inward_then a b c h k = record {
  low_width = k.low_width ∙ h.low_width;
  high_width = k.high_width ∙ h.high_width;
  lows = λ j. let p = h.lows j in let q = k.lows j in omega (arith, ints, p, q);
  highs = λ j. let p = h.highs j in let q = k.highs j in omega (arith, ints, p, q);
}

inward_none : (b : Box) → Inward b b
inward_none b = record {
  low_width = refl;
  high_width = refl;
  lows =
      λ k. omega (arith, ints);
  highs = λ k. omega (arith, ints);
}

inward_all : (b : Box) (es : List Decision) → Inward b (narrowed_all b es)
inward_all b [] = inward_none b
inward_all b (e ∷ es) =
    let next : Box = narrowed_at e.side b e.column e.value in
    inward_then b next (narrowed_all next es) (inward_at e.side b e.column e.value)
    (inward_all next es)

inward-pass : (m : ℕ) (p : Program) (d f : Desc Cut) → propagated m p d ≡ Some f
    → Inward (box_of d) (box_of f)
unfolding propagated
inward-pass zero p d f e = let z : d ≡ f = cc in rw z (inward_none (box_of f))
inward-pass (suc m) p d f e = by (tightened_of p d) e (λ es h. inward-pass m p (narrowed d es) f h)
  where
    by : (t : Tightened) → after_pass t d (propagated m p) ≡ Some f
        → ((es : List Decision) → propagated m p (narrowed d es) ≡ Some f
        → Inward (box_of (narrowed d es)) (box_of f)) → Inward (box_of d) (box_of f)
    by (Empty k) h i = absurd cc
    by (Changed es) h i = inward_then (box_of d) (box_of (narrowed d es)) (box_of f)
        (inward_all (box_of d) es) (i es h)
    by Same h i = let z : d ≡ f = cc in rw z (inward_none (box_of f))

-- ---- how many of the first n columns have more than one value
one_if : Bool → ℕ
one_if t = cond t 1 0

free_below : ℕ → List ℤ → List ℤ → ℕ
free_below zero lows highs = 0
free_below (suc n) lows highs = free_below n lows highs + one_if (int_lt (at lows n) (at highs n))

free-few : (n : ℕ) (lows highs : List ℤ) → free_below n lows highs ≤ n
unfolding free_below one_if
free-few zero lows highs = omega arith
free-few (suc n) lows highs = let i =
    free-few n lows highs in by (int_lt (at lows n) (at highs n)) i
  where
    by : (t : Bool) → free_below n lows highs ≤ n → (free_below n lows highs + cond t 1 0) ≤ suc n
    by true i = omega (arith, i)
    by false i = omega (arith, i)

free-falls : (n : ℕ) (a b : Box) → Inward a b → free_below n b.lows b.highs
    ≤ free_below n a.lows a.highs
unfolding free_below one_if
free-falls zero a b h = omega arith
free-falls (suc n) a b h =
    let i = free-falls n a b h in
    let p = h.lows n in
    let q = h.highs n in
    by (int_lt (at b.lows n) (at b.highs n)) (int_lt (at a.lows n) (at a.highs n)) refl refl i p q
  where
    by : (t u : Bool) → int_lt (at b.lows n) (at b.highs n) ≡ t
        → int_lt (at a.lows n) (at a.highs n) ≡ u → free_below n b.lows b.highs
        ≤ free_below n a.lows a.highs →
        at a.lows n ≤ℤ at b.lows n → at b.highs n ≤ℤ at a.highs n →
        (free_below n b.lows b.highs + cond t 1 0) ≤ (free_below n a.lows a.highs + cond u 1 0)
    by true true e f i p q = omega (arith, i)
    by true false e f i p q = absurd (omega (arith, ints, e, f, p, q))
    by false true e f i p q = omega (arith, i)
    by false false e f i p q = omega (arith, i)

free-less : (n j : ℕ) (a b : Box) → Inward a b → j < n → at a.lows j <ℤ at a.highs j
    → at b.highs j ≤ℤ at b.lows j → free_below n b.lows b.highs < free_below n a.lows a.highs
unfolding free_below one_if
free-less zero j a b h l w v = absurd (omega (arith, l))
free-less (suc n) j a b h l w v = ⊎_elim
    (λ m. let p = h.lows n in let q = h.highs n in earlier (int_lt (at b.lows n) (at b.highs n))
    (int_lt (at a.lows n) (at a.highs n)) refl refl (free-less n j a b h m w v) p q)
    (λ m. let z : j ≡ n = omega (arith, l, m) in
    let f : at a.lows n <ℤ at a.highs n = rw (sym z) w in
    let g : at b.highs n ≤ℤ at b.lows n = rw (sym z) v in
    here (int_lt (at b.lows n) (at b.highs n)) (int_lt (at a.lows n) (at a.highs n)) refl refl
    (free-falls n a b h) f g)
    (cases_lt j n)
  where
    earlier : (t u : Bool) → int_lt (at b.lows n) (at b.highs n) ≡ t
        → int_lt (at a.lows n) (at a.highs n) ≡ u → free_below n b.lows b.highs
        < free_below n a.lows a.highs →
        at a.lows n ≤ℤ at b.lows n → at b.highs n ≤ℤ at a.highs n →
        (free_below n b.lows b.highs + cond t 1 0) < (free_below n a.lows a.highs + cond u 1 0)
    earlier true true e f i p q = omega (arith, i)
    earlier true false e f i p q = absurd (omega (arith, ints, e, f, p, q))
    earlier false true e f i p q = omega (arith, i)
    earlier false false e f i p q = omega (arith, i)

    here : (t u : Bool) → int_lt (at b.lows n) (at b.highs n) ≡ t
        → int_lt (at a.lows n) (at a.highs n) ≡ u → free_below n b.lows b.highs
        ≤ free_below n a.lows a.highs →
        at a.lows n <ℤ at a.highs n → at b.highs n ≤ℤ at b.lows n →
        (free_below n b.lows b.highs + cond t 1 0) < (free_below n a.lows a.highs + cond u 1 0)
    here true u e f i p q = absurd (omega (arith, ints, e, q))
    here false true e f i p q = omega (arith, i)
    here false false e f i p q = absurd (omega (arith, ints, f, p))

-- a column that takes its low is free no more
low-less : (d : Desc Cut) (n j : ℕ) → j < n → j < length d.highs → at d.lows j <ℤ at d.highs j →
    free_below n (at_low d j).lows (at_low d j).highs < free_below n d.lows d.highs
low-less d n j l m w =
    let e = get_or-set_same d.highs j (at d.lows j) (pos 0) m in
    free-less n j (box_of d) (box_of (at_low d j))
    (record {
      low_width = refl;
      high_width = length-set d.highs j (at d.lows j);
      lows = λ k. omega (arith, ints);
      highs = λ k. set-at d.highs j k (at d.lows j) (λ z. z ≤ℤ at d.highs k) (omega (arith, ints))
          (λ q. rw (sym q) (omega (arith, ints, w)));
    })
    l w (omega (arith, ints, e))

-- ---- enough turns
enough : (n m : ℕ) (p : Program) (d : Desc Cut) → length d.lows ≡ length p.columns
    → length d.highs ≡ length p.columns →
    free_below (length p.columns) d.lows d.highs < n
    → free_below (length p.columns) d.lows d.highs < m → dived n p d ≡ dived m p d
unfolding dived
enough zero m p d a b l k = absurd (omega (arith, l))
enough (suc n) zero p d a b l k = absurd (omega (arith, k))
enough (suc n) (suc m) p d a b l k = by (propagated 20 p d) refl
    (λ f e j g.
    let w = inward-pass 20 p d f e in
    let c = free-falls (length p.columns) (box_of d) (box_of f) w in
    let i : j < length f.lows = first_free-inside (length f.lows) j f.lows f.highs g in
    let u : j < length p.columns = omega (arith, i, w.low_width, a) in
    let v : j < length f.highs = omega (arith, u, w.high_width, b) in
    let q = low-less f (length p.columns) j u v
    (first_free-wide (length f.lows) j f.lows f.highs g) in
    enough n m p (at_low f j) (w.low_width ∙ a) (length-set f.highs j (at f.lows j) ∙ w.high_width
    ∙ b) (omega (arith, c, q, l)) (omega (arith, c, q, k)))
  where
    turn : (f : Desc Cut) (o : Option ℕ) → ((j : ℕ) → o ≡ Some j → dived n p (at_low f j)
        ≡ dived m p (at_low f j)) → after_choice o f (dived n p) ≡ after_choice o f (dived m p)
    turn f None i = refl
    turn f (Some j) i = i j refl

    by : (o : Option (Desc Cut)) → propagated 20 p d ≡ o → ((f : Desc Cut) → propagated 20 p d
        ≡ Some f → (j : ℕ) → first_free (length f.lows) f.lows f.highs ≡ Some j
        → dived n p (at_low f j) ≡ dived m p (at_low f j)) →
        after_passes o (dived n p) ≡ after_passes o (dived m p)
    by None e h = refl
    by (Some f) e h = turn f (first_free (length f.lows) f.lows f.highs) (h f e)

pub dives_end : DivesEnd
dives_end p d more h =
    let c = free-few (length p.columns) d.lows d.highs in
    enough (length p.columns + 1 + more) (length p.columns + 1) p d h.lows h.highs
    (omega (arith, c)) (omega (arith, c))
