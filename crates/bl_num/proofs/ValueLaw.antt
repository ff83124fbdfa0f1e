-- The value of a number that is spelled.
use Rattle.std.proofs.Common.{◌≡◌, ◌≢◌, ◌⊎◌, ℕ, zero, suc, ◌+◌, ◌-◌, ◌*◌, ◌%◌, ◌^◌, ◌<◌, ◌≤◌}
use Rattle.std.proofs.Common.{Bool, true, false, cond, eqb, ◌&&◌, nat_le, nat_lt, nat_abs, ℤ, pos}
use Rattle.std.proofs.Common.{negsuc, ◌+ℤ◌, ◌-ℤ◌, ◌*ℤ◌, List, [], ◌∷◌, ◌++◌, length, Result, Ok}
use Rattle.std.proofs.Common.{Err, inl, inr, refl, sym, ap, subst, ◌∙◌, arith, ⊎_elim}
use Rattle.std.proofs.Math.Nat.{mul-le-mul, le_of_mul-le-mul_right}
use Rattle.std.proofs.lemmas.Nat.{pow-add}
use Rattle.std.proofs.lemmas.Int.{ints, unsigned_abs-mul}
use Rattle.std.proofs.lemmas.Bool.{cases_lt, eqb-true, eqb-false}
use Rattle.std.proofs.lemmas.Bool.Decides.{nat_tests}
use Rattle.std.proofs.lemmas.List.Elements.{All-head, All-tail}
use Rattle.bl_num.specs.declared.Decimal.{Decimal}
use Rattle.bl_num.specs.declared.NumberFault.{NumberFault}
use Rattle.bl_num.specs.declared.NumberFault.TheVariants.{TooWide}
use Rattle.bl_num.specs.Decimals.{Spelled, AreDigits, is_digit, negated_if, whole_number}
use Rattle.bl_num.specs.Decimals.{kept_digit, trimmed, decimal, widest, settled, meant, value_of}
use Rattle.bl_num.specs.Spellings.{raised, lowered, IsCanonical, IsWithinLimits, ReadsValue}
use Rattle.bl_num.proofs.Digits.{whole_from, whole_trimmed}
use Rattle.bl_num.proofs.Ring.{neg-*ℤ}
use Rattle.bl_num.proofs.Powers.{ten_pow-positive, ten_pow-more, no_less}

digit-bounds : (d : ℕ) → is_digit d ≡ true → (48 ≤ d) × (d ≤ 57)
digit-bounds d e = (grind (arith, nat_tests), grind (arith, nat_tests))

last_digit : (m d : ℕ) → 48 < d → d ≤ 57 → (10 * m + (d - 48)) % 10 ≢ 0
last_digit m d h k e = omega arith

-- digits without their trailing zeros are no multiple of ten
trimmed_end : (m d : ℕ) (ds kept : List ℕ) → is_digit d ≡ true → trimmed ds ≡ kept
    → kept_digit d kept ≢ [] →
    ((n : ℕ) → kept ≢ [] → whole_from n kept % 10 ≢ 0) → whole_from m (kept_digit d kept) % 10 ≢ 0
trimmed_end m d ds (e ∷ es) g h n ih = ih (10 * m + (d - 48)) (λ q. cc)
trimmed_end m d ds [] g h n ih = by (eqb d 48) refl n where
  by : (t : Bool) → eqb d 48 ≡ t → cond t [] (d ∷ []) ≢ []
      → whole_from m (cond t [] (d ∷ [])) % 10 ≢ 0
  by true e n = absurd (n refl)
  by false e n =
      let b = digit-bounds d g in
      let other : d ≢ 48 = eqb-false d 48 e in
      last_digit m d (omega (arith, b.0)) b.1

pub trimmed-last : (m : ℕ) (ds : List ℕ) → AreDigits ds → trimmed ds ≢ []
    → whole_from m (trimmed ds) % 10 ≢ 0
trimmed-last m [] h n = absurd (n refl)
trimmed-last m (d ∷ ds) h n =
    trimmed_end m d ds (trimmed ds) (All-head (λ x. is_digit x ≡ true) d ds h) refl n
    (λ k q. trimmed-last k ds (All-tail (λ x. is_digit x ≡ true) d ds h) q)

-- ---- powers

times_pow : (n a b : ℕ) → n * 10 ^ a * 10 ^ b ≡ n * 10 ^ (a + b)
times_pow n a b = rw (pow-add 10 a b) (grind arith)

cancel : (a b c : ℕ) → a * 10 ^ c ≡ b * 10 ^ c → a ≡ b
cancel a b c e =
    let p = ten_pow-positive c in
    let l : a ≤ b = le_of_mul-le-mul_right (omega arith) p in
    let g : b ≤ a = le_of_mul-le-mul_right (omega arith) p in
    omega arith

times_ten-mod : (m j : ℕ) → (m * 10 ^ (j + 1)) % 10 ≡ 0
times_ten-mod m j =
    let e : m * 10 ^ (j + 1) ≡ 10 * (m * 10 ^ j) = rw (ten_pow-more j) (grind arith) in
    rw e (omega arith)

at_least : (n a b : ℕ) → n * 10 ^ a ≤ n * 10 ^ (a + b)
at_least n a b = let p : 1 ≤ 10 ^ b = ten_pow-positive b in let l : n * 10 ^ a ≤ n * 10 ^ a =
    omega arith in let m = mul-le-mul l p in rw (← times_pow n a b) (omega arith)

raised-lowered : (e : ℤ) → e ≡ pos (raised e) -ℤ pos (lowered e)
raised-lowered (pos n) = omega (arith, ints)
raised-lowered (negsuc n) = omega (arith, ints)

power-whole : (e : ℤ) (f k a : ℕ) → (e -ℤ pos f) +ℤ pos k ≡ pos a → (f + lowered e) + a ≡ k
    + raised e
power-whole e f k a h = let q = raised-lowered e in omega (arith, ints)

power-places : (e : ℤ) (f k a : ℕ) → (e -ℤ pos f) +ℤ pos k ≡ negsuc a → f + lowered e ≡ k
    + raised e + suc a
power-places e f k a h = let q = raised-lowered e in omega (arith, ints)

-- ---- what `settled` gives

-- m over 10 ^ p is n times 10 ^ k over 10 ^ f, times ten to the exponent e
abbrev pub SameValue : ℕ → ℕ → ℕ → ℕ → ℕ → ℤ → Type 0
SameValue m p n k f e = m * 10 ^ (f + lowered e) ≡ n * 10 ^ k * 10 ^ (p + raised e)

pub record Found (minus : Bool) (n k f : ℕ) (e : ℤ) (d : Decimal) : Type 0 where
  pub m : ℕ
  pub p : ℕ
  pub is : d ≡ decimal minus m p
  pub same : SameValue m p n k f e
  pub small : m ≤ 10 ^ 27
  pub few : p ≤ 27
  pub canonical : (p ≡ 0) ⊎ (m % 10 ≢ 0)

pub record Missed (n k f : ℕ) (e : ℤ) (fault : NumberFault) : Type 0 where
  pub is : fault ≡ TooWide
  pub none : (m p : ℕ) → m ≤ 10 ^ 27 → p ≤ 27 → ¬ (SameValue m p n k f e)

abbrev pub Law : Bool → ℕ → ℕ → ℕ → ℤ → Result Decimal NumberFault → Type 0
Law minus n k f e (Ok d) = Found minus n k f e d
Law minus n k f e (Err fault) = Missed n k f e fault

module _ (minus : Bool) (n k f : ℕ) (e : ℤ) (last : n % 10 ≢ 0) where
  whole_by : (a : ℕ) (t : Bool) → (f + lowered e) + a ≡ k + raised e → nat_le (n * 10 ^ a) widest
      ≡ t → Law minus n k f e (cond t (Ok (decimal minus (n * 10 ^ a) 0)) (Err TooWide))
  whole_by a true h t = record {
    m = n * 10 ^ a;
    p = 0;
    is = refl;
    same = times_pow n a (f + lowered e) ∙ ap (λ (x : ℕ). n * 10 ^ x)
        (let q : a + (f + lowered e) ≡ k + (0 + raised e) = omega arith in q)
        ∙ sym (times_pow n k (0 + raised e));
    small = grind (arith, nat_tests);
    few = omega arith;
    canonical = inl refl;
  }
  whole_by a false h t = record {
    is = refl;
    none = λ m p s w q.
        let x : k + (p + raised e) ≡ (a + p) + (f + lowered e) = omega arith in
        let c : m * 10 ^ (f + lowered e) ≡ n * 10 ^ (a + p) * 10 ^ (f + lowered e) =
        q ∙ times_pow n k (p + raised e) ∙ ap (λ (y : ℕ). n * 10 ^ y) x
        ∙ sym (times_pow n (a + p) (f + lowered e)) in
        let g = cancel m (n * 10 ^ (a + p)) (f + lowered e) c in
        let l = at_least n a p in
        let u : widest < n * 10 ^ a = grind (arith, nat_tests) in
        omega arith;
  }

  -- with fewer places it is no whole number, since ten does not divide n
  fewer : (a m p : ℕ) → f + lowered e ≡ k + raised e + suc a → SameValue m p n k f e → p < suc a → ⊥
  fewer a m p h q l =
      let x : f + lowered e ≡ (a - p + 1) + (k + (p + raised e)) = omega arith in
      let c : m * 10 ^ (a - p + 1) * 10 ^ (k + (p + raised e)) ≡ n * 10 ^ (k + (p + raised e)) =
      times_pow m (a - p + 1) (k + (p + raised e)) ∙ ap (λ (y : ℕ). m * 10 ^ y) (sym x) ∙ q
      ∙ times_pow n k (p + raised e) in
      let g = cancel (m * 10 ^ (a - p + 1)) n (k + (p + raised e)) c in
      last (ap (λ (y : ℕ). y % 10) (sym g) ∙ times_ten-mod m (a - p))

  tests_pass : (a : ℕ) → n ≤ widest → a < 27 → (nat_le n widest && nat_lt a 27) ≡ true
  tests_pass a l h = grind (arith, nat_tests)

  -- and with so many places or more it is no smaller
  more : (a m p : ℕ) → f + lowered e ≡ k + raised e + suc a → (nat_le n widest && nat_lt a 27)
      ≡ false → m ≤ 10 ^ 27 → p ≤ 27 → SameValue m p n k f e → suc a ≤ p → ⊥
  more a m p h t s w q l =
      let x : k + (p + raised e) ≡ (p - suc a) + (f + lowered e) = omega arith in
      let c : m * 10 ^ (f + lowered e) ≡ n * 10 ^ (p - suc a) * 10 ^ (f + lowered e) =
      q ∙ times_pow n k (p + raised e) ∙ ap (λ (y : ℕ). n * 10 ^ y) x
      ∙ sym (times_pow n (p - suc a) (f + lowered e)) in
      let g = cancel m (n * 10 ^ (p - suc a)) (f + lowered e) c in
      let b = no_less n (p - suc a) in
      let r = tests_pass a (omega arith) (omega arith) in
      absurd (let z : true ≡ false = sym r ∙ t in cc)

  places_by : (a : ℕ) (t : Bool) → f + lowered e ≡ k + raised e + suc a
      → (nat_le n widest && nat_lt a 27) ≡ t
      → Law minus n k f e (cond t (Ok (decimal minus n (suc a))) (Err TooWide))
  places_by a true h t = record {
    m = n;
    p = suc a;
    is = refl;
    same = ap (λ (x : ℕ). n * 10 ^ x) (let q : f + lowered e ≡ k + (suc a + raised e) =
        omega arith in q) ∙ sym (times_pow n k (suc a + raised e));
    small = grind (arith, nat_tests);
    few = grind (arith, nat_tests);
    canonical = inr last;
  }
  places_by a false h t = record {
    is = refl;
    none =
        λ m p s w q. ⊎_elim (fewer a m p h q) (more a m p h t s w q) (cases_lt p (suc a));
  }

  pub settled-law : Law minus n k f e (settled minus n ((e -ℤ pos f) +ℤ pos k))
  settled-law = by ((e -ℤ pos f) +ℤ pos k) refl where
    by : (x : ℤ) → (e -ℤ pos f) +ℤ pos k ≡ x → Law minus n k f e (settled minus n x)
    by (pos a) h = whole_by a (nat_le (n * 10 ^ a) widest) (power-whole e f k a h) refl
    by (negsuc a) h = places_by a (nat_le n widest && nat_lt a 27) (power-places e f k a h) refl

-- ---- with the sign

pub signed-times : (minus : Bool) (a b : ℕ) → negated_if minus a *ℤ pos b ≡ negated_if minus (a * b)
signed-times true a b = neg-*ℤ (pos a) (pos b)
signed-times false a b = refl

pub signed-size : (minus : Bool) (a : ℕ) → nat_abs (negated_if minus a) ≡ a
signed-size true zero = refl
signed-size true (suc a) = refl
signed-size false a = refl

zero-times : (minus : Bool) (a b : ℕ) → pos 0 *ℤ pos a ≡ negated_if minus 0 *ℤ pos b
zero-times true a b = omega (arith, ints)
zero-times false a b = omega (arith, ints)

abbrev pub ReadsNumber : Bool → List ℕ → ℕ → ℤ → Result Decimal NumberFault → Type 0
ReadsNumber minus ds f e (Ok d) = (d.mantissa *ℤ pos (10 ^ (f + lowered e))
    ≡ negated_if minus (whole_number ds) *ℤ pos (10 ^ (d.places + raised e))) × IsCanonical d
    × IsWithinLimits d
ReadsNumber minus ds f e (Err fault) = (fault ≡ TooWide)
    × ((d : Decimal) → IsWithinLimits d → ¬ (d.mantissa *ℤ pos (10 ^ (f + lowered e))
    ≡ negated_if minus (whole_number ds) *ℤ pos (10 ^ (d.places + raised e))))

module _ (minus : Bool) (ds : List ℕ) (f : ℕ) (e : ℤ) where
  found : (n k : ℕ) (d : Decimal) → whole_number ds ≡ n * 10 ^ k → Found minus n k f e d
      → ReadsNumber minus ds f e (Ok d)
  found n k d w h =
      let z = signed-size minus h.m in
      let v = signed-times minus h.m (10 ^ (f + lowered e))
      ∙ ap (negated_if minus) (h.same ∙ ap (λ (x : ℕ). x * 10 ^ (h.p + raised e)) (sym w))
      ∙ sym (signed-times minus (whole_number ds) (10 ^ (h.p + raised e))) in
      subst (λ (x : Decimal). ReadsNumber minus ds f e (Ok x)) (sym h.is) (
        v,
        ⊎_elim inl (λ q. inr (λ r. q (ap (λ (x : ℕ). x % 10) (sym z) ∙ r))) h.canonical,
        (omega (arith, z, h.small), h.few),
      )

  missed : (n k : ℕ) (fault : NumberFault) → whole_number ds ≡ n * 10 ^ k → Missed n k f e fault
      → ReadsNumber minus ds f e (Err fault)
  missed n k fault w h = (
    h.is,
    λ d l q.
        let a = sym (unsigned_abs-mul d.mantissa (pos (10 ^ (f + lowered e)))) ∙ ap nat_abs q
        ∙ unsigned_abs-mul (negated_if minus (whole_number ds))
        (pos (10 ^ (d.places + raised e)))
        ∙ ap (λ (x : ℕ). x * 10 ^ (d.places + raised e)) (signed-size minus (whole_number ds) ∙ w)
        in
        h.none (nat_abs d.mantissa) d.places l.0 l.1 a,
  )

  either : (n k : ℕ) (r : Result Decimal NumberFault) → whole_number ds ≡ n * 10 ^ k
      → Law minus n k f e r → ReadsNumber minus ds f e r
  either n k (Ok d) w h = found n k d w h
  either n k (Err fault) w h = missed n k fault w h

  not_zero : (k : ℕ) → whole_number ds ≡ whole_number (trimmed ds) * 10 ^ k
      → ¬ (whole_number ds ≡ 0) → trimmed ds ≢ []
  not_zero k w n q = n (w ∙ ap (λ (xs : List ℕ). whole_number xs * 10 ^ k) q ∙ omega arith)

  pub meant-law : AreDigits ds → ReadsNumber minus ds f e (meant minus ds f e)
  meant-law h = by (eqb (whole_number ds) 0) refl where
    by : (t : Bool) → eqb (whole_number ds) 0 ≡ t →
        ReadsNumber minus ds f e (cond t (Ok (decimal false 0 0))
        (settled minus (whole_number (trimmed ds))
        ((e -ℤ pos f) +ℤ pos (length ds - length (trimmed ds)))))
    by true q =
        let w = eqb-true (whole_number ds) 0 q in (
          zero-times minus (10 ^ (f + lowered e)) (10 ^ (0 + raised e))
              ∙ ap (λ (x : ℕ). negated_if minus x *ℤ pos (10 ^ (0 + raised e))) (sym w),
          inl refl,
          (omega arith, omega arith),
        )
    by false q =
        let k = length ds - length (trimmed ds) in
        let w : whole_number ds ≡ whole_number (trimmed ds) * 10 ^ k = whole_trimmed 0 ds in
        let l = trimmed-last 0 ds h (not_zero k w (eqb-false (whole_number ds) 0 q)) in
        either (whole_number (trimmed ds)) k (settled minus (whole_number (trimmed ds))
        ((e -ℤ pos f) +ℤ pos k)) w (settled-law minus (whole_number (trimmed ds)) k f e l)

pub value_of-law : (s : Spelled) → AreDigits (s.whole ++ s.fraction) → ReadsValue s (value_of s)
value_of-law s h = by (nat_le (nat_abs s.exponent) 27) refl where
  read : (r : Result Decimal NumberFault) → nat_abs s.exponent ≤ 27
      → ReadsNumber s.minus (s.whole ++ s.fraction) (length s.fraction) s.exponent r
      → ReadsValue s r
  read (Ok d) l h = (l, h.0, h.1, h.2)
  read (Err fault) l h = (h.0, inr h.1)

  by : (t : Bool) → nat_le (nat_abs s.exponent) 27 ≡ t
      → ReadsValue s
      (cond t (meant s.minus (s.whole ++ s.fraction) (length s.fraction) s.exponent) (Err TooWide))
  by true q = read (meant s.minus (s.whole ++ s.fraction) (length s.fraction) s.exponent)
      (grind (arith, nat_tests))
      (meant-law s.minus (s.whole ++ s.fraction) (length s.fraction) s.exponent h)
  by false q = (refl, inl (grind (arith, nat_tests)))
