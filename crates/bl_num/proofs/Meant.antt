-- What digits mean, by what is kept of them.
use Rattle.std.proofs.Common.{◌≡◌, ℕ, suc, ◌-◌, ◌*◌, ◌^◌, ◌<◌, ◌≤◌, min, Bool, true, false, cond}
use Rattle.std.proofs.Common.{eqb, ◌&&◌, nat_le, nat_lt, ℤ, pos, negsuc, ◌+ℤ◌, ◌-ℤ◌, List, length}
use Rattle.std.proofs.Common.{Ok, Err, sym, ap, ◌∙◌, arith, ⊎_elim}
use Rattle.std.proofs.Math.Nat.{mul-le-mul}
use Rattle.std.proofs.lemmas.Bool.{cases_lt, eq-eqb, ne_eqb}
use Rattle.std.proofs.lemmas.Bool.Decides.{nat_tests}
use Rattle.bl_num.specs.declared.read.Digits.{Digits}
use Rattle.bl_num.specs.declared.NumberFault.TheVariants.{TooWide}
use Rattle.bl_num.specs.Decimals.{whole_number, trimmed, decimal, widest, settled, meant}
use Rattle.bl_num.specs.Reading.{ceiling, kept_of}
use Rattle.bl_num.proofs.Digits.{whole_trimmed}
use Rattle.bl_num.proofs.Powers.{ten_pow-positive, times_ten_pow-le}

-- a number that is too wide stays so
settled-wide : (minus : Bool) (n : ℕ) (x : ℤ) → widest < n → settled minus n x ≡ Err TooWide
settled-wide minus n (pos x) h =
    let one : 1 ≤ 10 ^ x = ten_pow-positive x in
    let m = mul-le-mul h one in
    let e : nat_le (n * 10 ^ x) widest ≡ false = grind (arith, nat_tests) in
    ap (λ (t : Bool). cond t (Ok (decimal minus (n * 10 ^ x) 0)) (Err TooWide)) e
settled-wide minus n (negsuc x) h =
    let e : nat_le n widest ≡ false = grind (arith, nat_tests) in
    ap (λ (t : Bool). cond (t && nat_lt x 27) (Ok (decimal minus n (suc x))) (Err TooWide)) e

settled-kept : (minus : Bool) (n : ℕ) (x : ℤ) → settled minus (min n ceiling) x ≡ settled minus n x
settled-kept minus n x = ⊎_elim
    (λ l. let e : min n ceiling ≡ n = omega arith in ap (λ (m : ℕ). settled minus m x) e)
    (λ l. settled-wide minus (min n ceiling) x (omega arith)
    ∙ sym (settled-wide minus n x (omega arith)))
    (cases_lt n ceiling)

pub meant-zero : (minus : Bool) (ds : List ℕ) (f : ℕ) (e : ℤ) → (kept_of ds).mantissa ≡ 0
    → meant minus ds f e ≡ Ok (decimal false 0 0)
meant-zero minus ds f e h =
    let w : whole_number (trimmed ds) ≡ 0 = omega arith in
    let p = ap (λ (x : ℕ). x * 10 ^ (length ds - length (trimmed ds))) w in
    let z : eqb (whole_number ds) 0 ≡ true =
    eq-eqb (whole_number ds) 0 (omega (arith, whole_trimmed 0 ds, p)) in
    ap (λ (t : Bool). cond t (Ok (decimal false 0 0))
    (settled minus (whole_number (trimmed ds))
    ((e -ℤ pos f) +ℤ pos (length ds - length (trimmed ds))))) z

pub meant-settled : (minus : Bool) (ds : List ℕ) (f : ℕ) (e : ℤ) → 0 < (kept_of ds).mantissa →
    meant minus ds f e ≡ settled minus (kept_of ds).mantissa
    ((e -ℤ pos f) +ℤ pos (kept_of ds).zeros)
meant-settled minus ds f e h =
    let w : 0 < whole_number (trimmed ds) = omega arith in
    let p = times_ten_pow-le (whole_number (trimmed ds)) 0 (length ds - length (trimmed ds)) w
    (omega arith) in
    let z : eqb (whole_number ds) 0 ≡ false =
    ne_eqb (whole_number ds) 0 (λ q. omega (arith, whole_trimmed 0 ds)) in
    let s = settled-kept minus (whole_number (trimmed ds))
    ((e -ℤ pos f) +ℤ pos (length ds - length (trimmed ds))) in
    ap (λ (t : Bool). cond t (Ok (decimal false 0 0))
    (settled minus (whole_number (trimmed ds))
    ((e -ℤ pos f) +ℤ pos (length ds - length (trimmed ds))))) z ∙ sym s

pub meant-kept : (minus : Bool) (ds : List ℕ) (s : Digits) (f : ℕ) (e : ℤ) → s ≡ kept_of ds → 0
    < s.mantissa →
    meant minus ds f e ≡ settled minus s.mantissa ((e -ℤ pos f) +ℤ pos s.zeros)
meant-kept minus ds s f e h l =
    let m = ap (λ (d : Digits). d.mantissa) h in
    meant-settled minus ds f e (omega (arith, m))
    ∙ ap (λ (d : Digits). settled minus d.mantissa ((e -ℤ pos f) +ℤ pos d.zeros)) (sym h)
