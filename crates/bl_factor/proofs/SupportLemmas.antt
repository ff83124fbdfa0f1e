-- Places that rise, and the numbers at them.
use Rattle.std.proofs.Common.{◌≡◌, ℕ, zero, suc, ◌+◌, ◌-◌, ◌<◌, ◌≤◌, Bool, true, false, List, []}
use Rattle.std.proofs.Common.{◌∷◌, ◌++◌, length, set, get_or, take, not, ◌&&◌, refl, sym, ap, ◌∙◌}
use Rattle.std.proofs.Common.{subst, arith}
use mir.Val.{bool_byte}
use Rattle.std.specs.List.{All}
use Rattle.std.proofs.lemmas.List.{take-set, take_more_set}
use Rattle.std.proofs.lemmas.List.Elements.{All-nil, All-cons}
use Rattle.bl_factor.specs.Support.{IsRising}

false_true : false ≡ true → ⊥
false_true e = cc

-- ---- lists that rise
pub rising-below : (low n : ℕ) (ps : List ℕ) → IsRising low n ps → All (λ p. p < n) ps
rising-below low n [] r = All-nil (λ p. p < n)
rising-below low n (p ∷ ps) r = All-cons (λ p. p < n) p ps r.1 (rising-below (suc p) n ps r.2)

pub IsRising-push : (low m n : ℕ) (ps : List ℕ) (q : ℕ) → IsRising low m ps → low ≤ q → m ≤ q → q
    < n → IsRising low n (ps ++ q ∷ [])
IsRising-push low m n [] q r a b c = (a, c, tt)
IsRising-push low m n (p ∷ ps) q r a b c =
    (r.0, omega (arith, r.1), IsRising-push (suc p) m n ps q r.2 (omega (arith, r.1)) b c)

pub IsRising-weaker : (low m n : ℕ) (ps : List ℕ) → IsRising low m ps → m ≤ n → IsRising low n ps
IsRising-weaker low m n [] r h = tt
IsRising-weaker low m n (p ∷ ps) r h =
    (r.0, omega (arith, r.1), IsRising-weaker (suc p) m n ps r.2 h)

-- the code's step: the next place is written, and then counted or not
pub IsRising-step : (counted : Bool) (i count r : ℕ) (places : List ℕ) → r ≡ bool_byte counted
    → count ≤ i → i < length places → IsRising 0 i (take count places) →
    (count + r ≤ i + 1) × IsRising 0 (i + 1) (take (count + r) (set places count i))
IsRising-step true i count r places e h l c =
    let m : count + r ≡ count + 1 = ap (λ (k : ℕ). count + k) e in (
      omega (arith, h, m),
      subst (λ (ps : List ℕ). IsRising 0 (i + 1) ps)
          (sym (ap (λ (k : ℕ). take k (set places count i)) m
          ∙ take_more_set places count i (omega (arith, h, l))))
          (IsRising-push 0 i (i + 1) (take count places) i c (omega arith) (omega arith)
          (omega arith)),
    )
IsRising-step false i count r places e h l c =
    let z : r ≡ 0 = e in
    let m : count + r ≡ count = omega (arith, z) in (
      omega (arith, h, m),
      subst (λ (ps : List ℕ). IsRising 0 (i + 1) ps)
          (sym (ap (λ (k : ℕ). take k (set places count i)) m ∙ take-set places count i))
          (IsRising-weaker 0 i (i + 1) (take count places) c (omega arith)),
    )

-- the code counts all the numbers that are not 0, and those with the flag; what is left are the
-- others
pub others_count : (z f : Bool) (filled count a b : ℕ) → count ≤ filled → a ≡ bool_byte (not z)
    → b ≡ bool_byte (not z && f) →
    (count + b ≤ filled + a) × ((filled - count) + bool_byte (not z && not f)
    ≡ (filled + a) - (count + b))
others_count true f filled count a b h d e = let x : a ≡ 0 = d in let y : b ≡ 0 =
    e in (omega (arith, h, x, y), omega (arith, h, x, y))
others_count false true filled count a b h d e = let x : a ≡ 1 = d in let y : b ≡ 1 =
    e in (omega (arith, h, x, y), omega (arith, h, x, y))
others_count false false filled count a b h d e = let x : a ≡ 1 = d in let y : b ≡ 0 =
    e in (omega (arith, h, x, y), omega (arith, h, x, y))

-- ---- listed places in turn
rising-first : (low n : ℕ) (ps : List ℕ) → IsRising low n ps → low ≤ n → low ≤ get_or ps 0 n
rising-first low n [] r h = h
rising-first low n (p ∷ ps) r h = r.0

rising-after : (low n : ℕ) (ps : List ℕ) (k : ℕ) → IsRising low n ps → k < length ps
    → (get_or ps k n ≡ get_or ps k 0) × (get_or ps k 0 < get_or ps (suc k) n)
rising-after low n [] k r h = absurd (omega arith)
rising-after low n (p ∷ ps) zero r h = (refl, rising-first (suc p) n ps r.2 r.1)
rising-after low n (p ∷ ps) (suc k) r h = rising-after (suc p) n ps k r.2 (omega arith)

-- the place that comes now, and that the next one, or the end, is above it
pub rising-next : (low n : ℕ) (ps : List ℕ) (k : ℕ) → IsRising low n ps → k < length ps
    → (get_or ps k n ≡ get_or ps k 0) × (get_or ps k 0 < get_or ps (k + 1) n)
rising-next low n ps k r h =
    let x = rising-after low n ps k r h in
    let e : suc k ≡ k + 1 = omega arith in
    (x.0, subst (λ (j : ℕ). get_or ps k 0 < get_or ps j n) e x.1)
