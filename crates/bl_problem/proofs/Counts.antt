-- How many points a box has: a narrower box has no more, and two halves add up.
use Rattle.std.proofs.Common.{◌≡◌, ℕ, zero, suc, ◌+◌, ◌*◌, ◌<◌, ◌≤◌, List, [], ◌∷◌, length, refl}
use Rattle.std.proofs.Common.{ap, sym, ◌∙◌, arith, true, false, ◌⊎◌, inl, inr, length-set}
use Rattle.std.specs.Prelude.{ℤ, pos, negsuc, ◌≤ℤ◌, ◌<ℤ◌, ◌+ℤ◌, ◌-ℤ◌, int_lt, unsigned_abs}
use Rattle.std.specs.Prelude.{slice_set, slice_index_or}
use Rattle.std.specs.Int.{int_max, int_min}
use Rattle.std.proofs.lemmas.Int.{ints, clamps}
use Rattle.std.proofs.lemmas.Bool.{cond-true, cond-false, cases_Bool}
use Rattle.std.proofs.Math.Nat.{mul-pos, mul-add, add-mul, mul-zero, zero-mul, mul-le-mul_left}
use Rattle.std.proofs.Math.Nat.{mul-le-mul_right}
use Rattle.bl_problem.specs.Points.{width_of, points_in}
use Rattle.bl_problem.specs.declared.decision.Decision.{Decision}
use Rattle.bl_problem.specs.declared.decision.Side.{Side}
use Rattle.bl_problem.specs.declared.decision.Side.TheVariants.{AtLeast, AtMost}
use Rattle.bl_problem.specs.Decisions.{Box, raised, lowered, narrowed_at, narrowed_all}

abs_of : (z : ℤ) → pos 0 ≤ℤ z → pos (unsigned_abs z) ≡ z
abs_of (pos n) h = refl
abs_of (negsuc n) h = absurd (omega (arith, ints, h))

pub width_is : (l h : ℤ) → l ≤ℤ h → pos (width_of l h) ≡ (h -ℤ l) +ℤ pos 1
width_is l h a =
    let t : int_lt h l ≡ false = grind (arith, ints, a) in
    let w : width_of l h ≡ suc (unsigned_abs (h -ℤ l)) =
    cond-false (int_lt h l) 0 (suc (unsigned_abs (h -ℤ l))) t in
    let d : pos (unsigned_abs (h -ℤ l)) ≡ h -ℤ l = abs_of (h -ℤ l) (omega (arith, ints, a)) in
    rw w (omega (arith, ints, d))

pub width_none : (l h : ℤ) → h <ℤ l → width_of l h ≡ 0
width_none l h a =
    let t : int_lt h l ≡ true = grind (arith, ints, a) in
    cond-true (int_lt h l) 0 (suc (unsigned_abs (h -ℤ l))) t

cases_ends : (l h : ℤ) → (l ≤ℤ h) ⊎ (h <ℤ l)
cases_ends l h =
    elim (cases_Bool (int_lt h l)) [
      | inl t ↦ inr (grind (arith, ints, t))
      | inr t ↦ inl (grind (arith, ints, t))
    ]

-- a narrower interval has no more numbers
pub width-le : (l h l' h' : ℤ) → l ≤ℤ l' → h' ≤ℤ h → width_of l' h' ≤ width_of l h
width-le l h l' h' a b =
    elim (cases_ends l' h') [
      | inl i ↦
          let x : pos (width_of l' h') ≡ (h' -ℤ l') +ℤ pos 1 = width_is l' h' i in
          let y : pos (width_of l h) ≡ (h -ℤ l) +ℤ pos 1 =
          width_is l h (omega (arith, ints, a, b, i)) in
          omega (arith, ints, x, y, a, b)
      | inr i ↦ let x : width_of l' h' ≡ 0 = width_none l' h' i in omega (arith, x)
    ]

pub width-pos : (l h : ℤ) → l ≤ℤ h → 0 < width_of l h
width-pos l h i = let x : pos (width_of l h) ≡ (h -ℤ l) +ℤ pos 1 =
    width_is l h i in omega (arith, ints, x, i)

pub width-halves : (l h at : ℤ) → l ≤ℤ at → at <ℤ h → width_of l at + width_of (at +ℤ pos 1) h
    ≡ width_of l h
width-halves l h at a b =
    let x : pos (width_of l at) ≡ (at -ℤ l) +ℤ pos 1 = width_is l at a in
    let y : pos (width_of (at +ℤ pos 1) h) ≡ (h -ℤ (at +ℤ pos 1)) +ℤ pos 1 =
    width_is (at +ℤ pos 1) h (omega (arith, ints, b)) in
    let z : pos (width_of l h) ≡ (h -ℤ l) +ℤ pos 1 = width_is l h (omega (arith, ints, a, b)) in
    omega (arith, ints, x, y, z)

pub points_in-raised : (lows highs : List ℤ) (j : ℕ) (v : ℤ) → points_in (raised lows j v) highs
    ≤ points_in lows highs
points_in-raised [] highs j v = omega arith
points_in-raised (l ∷ lows) [] zero v = omega arith
points_in-raised (l ∷ lows) [] (suc j) v = omega arith
points_in-raised (l ∷ lows) (h ∷ highs) zero v =
    mul-le-mul_right (points_in lows highs)
    (width-le l h (int_max l v) h (omega (arith, ints, clamps)) (omega (arith, ints)))
points_in-raised (l ∷ lows) (h ∷ highs) (suc j) v =
    mul-le-mul_left (width_of l h) (points_in-raised lows highs j v)

pub points_in-lowered : (lows highs : List ℤ) (j : ℕ) (v : ℤ) → points_in lows (lowered highs j v)
    ≤ points_in lows highs
points_in-lowered [] highs j v = omega arith
points_in-lowered (l ∷ lows) [] j v = omega arith
points_in-lowered (l ∷ lows) (h ∷ highs) zero v =
    mul-le-mul_right (points_in lows highs)
    (width-le l h l (int_min h v) (omega (arith, ints)) (omega (arith, ints, clamps)))
points_in-lowered (l ∷ lows) (h ∷ highs) (suc j) v =
    mul-le-mul_left (width_of l h) (points_in-lowered lows highs j v)

pub points_in-narrowed_at : (s : Side) (b : Box) (j : ℕ) (v : ℤ)
    → points_in (narrowed_at s b j v).lows (narrowed_at s b j v).highs ≤ points_in b.lows b.highs
points_in-narrowed_at AtLeast b j v = points_in-raised b.lows b.highs j v
points_in-narrowed_at AtMost b j v = points_in-lowered b.lows b.highs j v

pub points_in-narrowed : (b : Box) (ds : List Decision)
    → points_in (narrowed_all b ds).lows (narrowed_all b ds).highs ≤ points_in b.lows b.highs
points_in-narrowed b [] = omega arith
points_in-narrowed b (d ∷ ds) =
    let x : points_in (narrowed_all b (d ∷ ds)).lows (narrowed_all b (d ∷ ds)).highs
    ≤ points_in (narrowed_at d.side b d.column d.value).lows
    (narrowed_at d.side b d.column d.value).highs =
    points_in-narrowed (narrowed_at d.side b d.column d.value) ds in
    let y : points_in (narrowed_at d.side b d.column d.value).lows
    (narrowed_at d.side b d.column d.value).highs ≤ points_in b.lows b.highs =
    points_in-narrowed_at d.side b d.column d.value in
    omega (arith, x, y)

-- the two halves of a box: they add up, and either both have points or neither
pub record AreHalves (left right whole : ℕ) : Type 0 where
  pub adds : left + right ≡ whole
  pub both : (whole ≡ 0) ⊎ ((0 < left) × (0 < right))

AreHalves-times : (w left right whole : ℕ) → AreHalves left right whole
    → AreHalves (w * left) (w * right) (w * whole)
AreHalves-times w left right whole h =
    record {
      adds = sym (mul-add w left right) ∙ ap (λ n. w * n) h.adds;
      both = elim h.both [
        | inl e ↦ inl (ap (λ n. w * n) e ∙ mul-zero w)
        | inr b ↦ by_width w b
      ];
    }
  where
    by_width : (u : ℕ) → (0 < left) × (0 < right) → (u * whole ≡ 0)
        ⊎ ((0 < u * left) × (0 < u * right))
    by_width zero b = inl (zero-mul whole)
    by_width (suc u) b = let p : 0 < suc u = omega arith in inr (mul-pos p b.0, mul-pos p b.1)

AreHalves-first : (a b c rest : ℕ) → a + b ≡ c → 0 < a → 0 < b
    → AreHalves (a * rest) (b * rest) (c * rest)
AreHalves-first a b c rest e p q =
    record {
      adds = sym (add-mul a b rest) ∙ ap (λ n. n * rest) e;
      both = by_rest rest;
    }
  where
    by_rest : (n : ℕ) → (c * n ≡ 0) ⊎ ((0 < a * n) × (0 < b * n))
    by_rest zero = inl (mul-zero c)
    by_rest (suc n) = let r : 0 < suc n = omega arith in inr (mul-pos p r, mul-pos q r)

pub points_in-halves : (lows highs : List ℤ) (j : ℕ) (at : ℤ) → j < length lows → length highs
    ≡ length lows
    → slice_index_or lows j (pos 0) ≤ℤ at → at <ℤ slice_index_or highs j (pos 0)
    → AreHalves (points_in lows (slice_set highs j at))
    (points_in (slice_set lows j (at +ℤ pos 1)) highs) (points_in lows highs)
points_in-halves [] highs j at within same a b = absurd (omega (arith, within))
points_in-halves (l ∷ lows) [] j at within same a b = cc
points_in-halves (l ∷ lows) (h ∷ highs) zero at within same a b =
    AreHalves-first (width_of l at) (width_of (at +ℤ pos 1) h) (width_of l h)
    (points_in lows highs) (width-halves l h at a b)
    (width-pos l at a) (width-pos (at +ℤ pos 1) h (omega (arith, ints, b)))
points_in-halves (l ∷ lows) (h ∷ highs) (suc j) at within same a b =
    AreHalves-times (width_of l h) _ _ _
    (points_in-halves lows highs j at (omega (arith, within)) (omega (arith, same)) a b)

pub length-narrowed : (b : Box) (ds : List Decision)
    → (length (narrowed_all b ds).lows ≡ length b.lows)
    × (length (narrowed_all b ds).highs ≡ length b.highs)
length-narrowed b [] = (refl, refl)
length-narrowed b (d ∷ ds) =
    let r = length-narrowed (narrowed_at d.side b d.column d.value) ds in
    let s = one d.side in
    (r.0 ∙ s.0, r.1 ∙ s.1)
  where
    one : (s : Side) → (length (narrowed_at s b d.column d.value).lows ≡ length b.lows)
        × (length (narrowed_at s b d.column d.value).highs ≡ length b.highs)
    one AtLeast = (length-set b.lows d.column _, refl)
    one AtMost = (refl, length-set b.highs d.column _)
