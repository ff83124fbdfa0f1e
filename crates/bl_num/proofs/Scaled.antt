-- Whole numbers times powers of ten.
use Rattle.std.proofs.Common.{◌≡◌, ◌⊎◌, ℕ, suc, ◌+◌, ◌-◌, ◌*◌, ◌%◌, ◌^◌, ◌<◌, ◌≤◌, ℤ, pos, ◌+ℤ◌}
use Rattle.std.proofs.Common.{◌*ℤ◌, ◌<ℤ◌, nat_abs, sym, ap, ◌∙◌, arith, inl, inr, ⊎_elim}
use Rattle.std.proofs.lemmas.Int.{ints, by_lt_z, unsigned_abs-mul}
use Rattle.std.proofs.lemmas.Nat.{pow-add}
use Rattle.std.proofs.lemmas.Bool.{cases_lt}
use Rattle.bl_num.specs.declared.Decimal.{Decimal}
use Rattle.bl_num.specs.Spellings.{IsCanonical}
use Rattle.std.proofs.Math.IntN.{*ℤ_comm}
use Rattle.bl_num.proofs.Ring.{*ℤ_assoc, *ℤ-le, +ℤ-*ℤ, *ℤ_pos1}
use Rattle.bl_num.proofs.Powers.{ten_pow-more, ten_pow-positive}

abbrev pub scaled : ℤ → ℕ → ℤ
scaled z k = z *ℤ pos (10 ^ k)

pub scaled-add : (z : ℤ) (a b : ℕ) → scaled (scaled z a) b ≡ scaled z (a + b)
scaled-add z a b = *ℤ_assoc z (pos (10 ^ a)) (pos (10 ^ b))
    ∙ ap (λ (n : ℕ). z *ℤ pos n) (sym (pow-add 10 a b))

pub scaled-swap : (z : ℤ) (a b : ℕ) → scaled (scaled z a) b ≡ scaled (scaled z b) a
scaled-swap z a b = let e : a + b ≡ b + a = omega arith in scaled-add z a b ∙ ap (scaled z) e
    ∙ sym (scaled-add z b a)

scaled-less : (y z : ℤ) (k : ℕ) → y <ℤ z → scaled y k <ℤ scaled z k
scaled-less y z k l =
    let b = pos (10 ^ k) in
    let p = ten_pow-positive k in
    let m = *ℤ-le b (y +ℤ pos 1) z (omega (arith, ints)) (omega (arith, ints)) in
    let e1 = *ℤ_comm b (y +ℤ pos 1) in
    let e2 = *ℤ_comm b z in
    let e3 = +ℤ-*ℤ y (pos 1) b in
    let e4 = *ℤ_pos1 b in
    omega (arith, ints)

pub scaled-cancel : (y z : ℤ) (k : ℕ) → scaled y k ≡ scaled z k → y ≡ z
scaled-cancel y z k e =
    by_lt_z y z (λ l. let s = scaled-less y z k l in absurd (omega (arith, ints)))
    (λ l. by_lt_z z y (λ m. let s = scaled-less z y k m in absurd (omega (arith, ints)))
    (λ m. omega (arith, ints)))

-- a multiple of ten
scaled-mod : (z : ℤ) (j : ℕ) → nat_abs (scaled z (j + 1)) % 10 ≡ 0
scaled-mod z j =
    let e = unsigned_abs-mul z (pos (10 ^ (j + 1))) in
    let f : nat_abs z * 10 ^ (j + 1) ≡ 10 * (nat_abs z * 10 ^ j) =
    rw (ten_pow-more j) (grind arith) in
    rw (e, f) (omega arith)

-- a canonical decimal that is y / 10 ^ k has no more than k places
pub canonical_places : (d : Decimal) (y : ℤ) (k : ℕ) → IsCanonical d → scaled d.mantissa k
    ≡ scaled y d.places → d.places ≤ k
canonical_places d y k h e = ⊎_elim (λ l. l) (λ l.
    let j = d.places - suc k in
    let q : d.places ≡ (j + 1) + k = omega arith in
    let r = e ∙ ap (scaled y) q ∙ sym (scaled-add y (j + 1) k) in
    let m = scaled-cancel d.mantissa (scaled y (j + 1)) k r in
    let z = ap (λ (x : ℤ). nat_abs x % 10) m ∙ scaled-mod y j in
    absurd (⊎_elim (λ p. omega arith) (λ n. n z) h)) (cases_le d.places k)
  where
    cases_le : (a b : ℕ) → (a ≤ b) ⊎ (b < a)
    cases_le a b = ⊎_elim (λ l. inr l) (λ l. inl l) (cases_lt b a)

-- and in units of 10 ^ -k it is y
pub canonical_units : (d : Decimal) (y : ℤ) (k : ℕ) → IsCanonical d → scaled d.mantissa k
    ≡ scaled y d.places → scaled d.mantissa (k - d.places) ≡ y
canonical_units d y k h e =
    let l = canonical_places d y k h e in
    let q : (k - d.places) + d.places ≡ k = omega arith in
    scaled-cancel (scaled d.mantissa (k - d.places)) y d.places
    (scaled-add d.mantissa (k - d.places) d.places ∙ ap (scaled d.mantissa) q ∙ e)

abbrev made : ℤ → ℕ → Decimal
made m p = record { mantissa = m; places = p }

-- two canonical decimals with one value are one
pub canonical_same : (a b : Decimal) → IsCanonical a → IsCanonical b → scaled a.mantissa b.places
    ≡ scaled b.mantissa a.places → a ≡ b
canonical_same a b h k e =
    let l = canonical_places a b.mantissa b.places h e in
    let m = canonical_places b a.mantissa a.places k (sym e) in
    let p : a.places ≡ b.places = omega arith in
    let q = scaled-cancel a.mantissa b.mantissa b.places (e ∙ ap (scaled b.mantissa) p) in
    let r : made a.mantissa a.places ≡ made b.mantissa b.places = cc in
    r
