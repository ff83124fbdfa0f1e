-- What is kept of digits, with one digit more.
use Rattle.std.proofs.Common.{◌≡◌, ℕ, ◌+◌, ◌-◌, ◌*◌, ◌^◌, ◌<◌, ◌≤◌, min, Bool, true, false, eqb}
use Rattle.std.proofs.Common.{cond, List, [], ◌∷◌, ◌++◌, length, sym, ap, ◌∙◌, arith, ⊎_elim}
use Rattle.std.proofs.Math.Nat.{mul-le-mul}
use Rattle.std.proofs.lemmas.Bool.{cases_lt}
use Rattle.std.proofs.lemmas.List.{length_push}
use Rattle.bl_num.specs.declared.read.Digits.{Digits}
use Rattle.bl_num.specs.Decimals.{whole_number, kept_digit, trimmed}
use Rattle.bl_num.specs.Reading.{ceiling, kept_of}
use Rattle.bl_num.proofs.Digits.{trimmed_zero, trimmed_digit, whole_push, whole_trimmed}
use Rattle.bl_num.proofs.Powers.{ten_pow-more, ten_pow-positive}

kept_digit-length : (d : ℕ) (ds : List ℕ) → length (kept_digit d ds) ≤ length ds + 1
kept_digit-length d [] = by (eqb d 48) where
  by : (t : Bool) → length (cond t [] (d ∷ [])) ≤ 0 + 1
  by true = omega arith
  by false = omega arith
kept_digit-length d (e ∷ ds) = omega arith

pub trimmed-length : (ds : List ℕ) → length (trimmed ds) ≤ length ds
trimmed-length [] = omega arith
trimmed-length (d ∷ ds) = omega (arith, kept_digit-length d (trimmed ds), trimmed-length ds)

-- to stop at the ceiling first changes nothing
pub min_times : (w p : ℕ) → 0 < p → min (min w ceiling * p) ceiling ≡ min (w * p) ceiling
min_times w p h = ⊎_elim (λ l. let e : min w ceiling ≡ w =
    omega arith in ap (λ (x : ℕ). min (x * p) ceiling) e)
    (λ l. let one : 1 ≤ p = omega arith in
    let m = mul-le-mul l one in
    let e : min w ceiling ≡ ceiling = omega arith in
    ap (λ (x : ℕ). min (x * p) ceiling) e ∙ omega arith) (cases_lt w ceiling)

-- a digit behind zeros that are held back
one_more : (w z r : ℕ) → min (min (min w ceiling * 10 ^ (z + 1)) ceiling + r) ceiling
    ≡ min (10 * (w * 10 ^ z) + r) ceiling
one_more w z r =
    let t = min_times w (10 ^ (z + 1)) (ten_pow-positive (z + 1)) in
    let q : w * 10 ^ (z + 1) ≡ 10 * (w * 10 ^ z) = rw (ten_pow-more z) (grind arith) in
    ap (λ (x : ℕ). min (x + r) ceiling) t ∙ omega (arith, q)

abbrev pub digits : ℕ → ℕ → Digits
digits m z = record { mantissa = m; zeros = z }

same : (m n y z : ℕ) → m ≡ n → y ≡ z → digits m y ≡ digits n z
same m n y z e h = cc

pub kept_of-zero : (ds : List ℕ) (s : Digits) → s ≡ kept_of ds → digits s.mantissa (s.zeros + 1)
    ≡ kept_of (ds ++ 48 ∷ [])
kept_of-zero ds s e =
    let m = ap (λ (x : Digits). x.mantissa) e in
    let z = ap (λ (x : Digits). x.zeros) e in
    let n : s.zeros + 1 ≡ length (ds ++ 48 ∷ []) - length (trimmed ds) =
    omega (arith, length_push ds 48, trimmed-length ds) in
    rw (trimmed_zero ds) (same _ _ _ _ m n)

pub kept_of-digit : (ds : List ℕ) (s : Digits) (d : ℕ) → s ≡ kept_of ds → eqb d 48 ≡ false →
    digits (min (min (s.mantissa * 10 ^ (s.zeros + 1)) ceiling + (d - 48)) ceiling) 0
    ≡ kept_of (ds ++ d ∷ [])
kept_of-digit ds s d e h =
    let w = whole_number (trimmed ds) in
    let z = length ds - length (trimmed ds) in
    let m = ap (λ (x : Digits). min (min (x.mantissa * 10 ^ (x.zeros + 1)) ceiling + (d - 48))
    ceiling) e in
    let n : min (10 * (w * 10 ^ z) + (d - 48)) ceiling ≡ min (whole_number (ds ++ d ∷ [])) ceiling =
    ap (λ (x : ℕ). min (10 * x + (d - 48)) ceiling) (sym (whole_trimmed 0 ds))
    ∙ ap (λ (x : ℕ). min x ceiling) (sym (whole_push ds d)) in
    let k : 0 ≡ length (ds ++ d ∷ []) - length (ds ++ d ∷ []) = omega arith in
    rw (trimmed_digit ds d h) (same _ _ _ _ (m ∙ one_more w z (d - 48) ∙ n) k)
