use Rattle.std.proofs.Common.{◌≡◌, ℕ, zero, suc, ◌+◌, ◌^◌, ◌≤◌, ◌<◌, ℤ, pos, ◌+ℤ◌, refl, sym, ◌∙◌}
use Rattle.std.proofs.Common.{ap, arith, Option, Some, None, SomeIff, FitsSigned, nat_lt, cond}
use Rattle.std.proofs.Common.{true, false, Bool, ⊎_elim, add-one}
use Rattle.std.proofs.lemmas.Int.{ints}
use Rattle.std.proofs.lemmas.Bool.Decides.{nat_tests}
use Rattle.std.proofs.lemmas.Bool.{cases_lt}
use Rattle.std.specs.Int.{w128}
use Rattle.bl_num.specs.Checked.{i128_of, checked_add, checked_sum}
use Rattle.bl_num.specs.Exact.{sum_below}
use lib.Signed.{mag}

pub i128_of_fits : (z : ℤ) → FitsSigned w128 z → i128_of z ≡ Some z
i128_of_fits z h = let k = h.sfits in grind (arith, nat_tests)

pub i128_of_not : (z : ℤ) → ¬ (FitsSigned w128 z) → i128_of z ≡ None
i128_of_not z n = by (nat_lt (mag z) (2 ^ 127)) refl
  where
    by : (t : Bool) → nat_lt (mag z) (2 ^ 127) ≡ t → cond t (Some z) None ≡ None
    by true e = absurd (n (record { sfits = grind (arith, nat_tests) }))
    by false e = refl

-- what a checked operation of std answers
pub i128_of_is : (o : Option ℤ) (z : ℤ) → SomeIff o (FitsSigned w128 z) z → i128_of z ≡ o
i128_of_is None z h = i128_of_not z h
i128_of_is (Some x) z h = i128_of_fits z h.0 ∙ ap Some (sym h.1)

none-add : (o : Option ℤ) → checked_add None o ≡ None
none-add o = refl

pub checked_sum-more : (start : Option ℤ) (n : ℕ) (f : ℕ → Option ℤ) → checked_sum start (n + 1) f
    ≡ checked_add (checked_sum start n f) (f n)
unfolding checked_sum
checked_sum-more start n f = rw add-one refl

pub checked_sum-start : (start : Option ℤ) (f : ℕ → Option ℤ) → checked_sum start 0 f ≡ start
unfolding checked_sum
checked_sum-start start f = refl

-- a sum that has left `i128` never comes back
pub checked_sum-none : (start : Option ℤ) (f : ℕ → Option ℤ) (k n : ℕ) → checked_sum start k f
    ≡ None → k ≤ n → checked_sum start n f ≡ None
unfolding checked_sum
checked_sum-none start f k zero e h = let z : k ≡ 0 = omega arith in rw z at e
checked_sum-none start f k (suc n) e h = by_le k n
    (λ l. let i = checked_sum-none start f k n e l in ap (λ (o : Option ℤ). checked_add o (f n))
    i) (λ l. let z : k ≡ suc n = omega arith in rw z at e)
  where
    by_le : {P : Type 0} (k n : ℕ) → (k ≤ n → P) → (n < k → P) → P
    by_le k n f g = ⊎_elim g f (cases_lt n k)

-- one more term, by what std's `checked_add` answered
pub checked_sum-step : (start : Option ℤ) (f : ℕ → Option ℤ) (i : ℕ) (s t : ℤ) (o : Option ℤ)
    → checked_sum start i f ≡ Some s → f i ≡ Some t
    → SomeIff o (FitsSigned w128 (s +ℤ t)) (s +ℤ t) → checked_sum start (i + 1) f ≡ o
checked_sum-step start f i s t o e g h = checked_sum-more start i f
    ∙ ap (λ (x : Option ℤ). checked_add x (f i)) e ∙ ap (λ (x : Option ℤ). checked_add (Some s) x)
    g ∙ i128_of_is o (s +ℤ t) h

-- the number of an option, 0 where there is none
abbrev pub number : Option ℤ → ℤ
number None = pos 0
number (Some v) = v

-- where a checked sum gives a number, each of its terms is there, and the number is the exact sum
pub record SumExists (start : Option ℤ) (n : ℕ) (f : ℕ → Option ℤ) (v : ℤ) : Type 0 where
  pub start_exists : start ≡ Some (number start)
  pub each : (k : ℕ) → k < n → f k ≡ Some (number (f k))
  pub exact : v ≡ number start +ℤ sum_below n (λ k. number (f k))

pub i128_of-some : (z v : ℤ) → i128_of z ≡ Some v → z ≡ v
i128_of-some z v e = by (nat_lt (mag z) (2 ^ 127)) e
  where
    by : (t : Bool) → cond t (Some z) None ≡ Some v → z ≡ v
    by true q = cc
    by false q = cc

-- what a checked sum of two options needs
pub record AddExists (a b : Option ℤ) (v : ℤ) : Type 0 where
  pub left : a ≡ Some (number a)
  pub right : b ≡ Some (number b)
  pub exact : v ≡ number a +ℤ number b

pub checked_add-some : (a b : Option ℤ) (v : ℤ) → checked_add a b ≡ Some v → AddExists a b v
checked_add-some None b v e = absurd cc
checked_add-some (Some a) None v e = absurd cc
checked_add-some (Some a) (Some b) v e =
    record { left = refl; right = refl; exact = sym (i128_of-some (a +ℤ b) v e) }

pub checked_sum-some : (start : Option ℤ) (n : ℕ) (f : ℕ → Option ℤ) (v : ℤ)
    → checked_sum start n f ≡ Some v → SumExists start n f v
unfolding checked_sum
checked_sum-some start zero f v e = let z =
    ap number e in record {
      start_exists = e ∙ ap Some (sym z);
      each =
          λ k l. absurd (omega arith);
      exact = omega (arith, ints, z);
    }
checked_sum-some start (suc n) f v e =
    let a = checked_add-some (checked_sum start n f) (f n) v e in
    let i = checked_sum-some start n f (number (checked_sum start n f)) a.left in
    record {
      start_exists = i.start_exists;
      each = λ k l. ⊎_elim (λ m. i.each k m) (λ m. let q : k ≡ n = omega arith in rw q a.right)
          (cases_lt k n);
      exact = omega (arith, ints, a.exact, i.exact);
    }

-- one more term, by what `add` answered
pub sum_step : (start : Option ℤ) (f : ℕ → Option ℤ) (i : ℕ) (s t : ℤ) (o : Option ℤ)
    → checked_sum start i f ≡ Some s → f i ≡ Some t → o ≡ i128_of (s +ℤ t)
    → checked_sum start (i + 1) f ≡ o
sum_step start f i s t o e g h = checked_sum-more start i f
    ∙ ap (λ (x : Option ℤ). checked_add x (f i)) e ∙ ap (λ (x : Option ℤ). checked_add (Some s) x)
    g ∙ sym h

-- a term that is None, or a sum that leaves `i128`, makes the whole sum None
pub sum_lost : (start : Option ℤ) (f : ℕ → Option ℤ) (i n : ℕ) (s : ℤ) → checked_sum start i f
    ≡ Some s → f i ≡ None → i < n → checked_sum start n f ≡ None
sum_lost start f i n s e g l = checked_sum-none start f (i + 1) n
    (checked_sum-more start i f ∙ ap (λ (x : Option ℤ). checked_add x (f i)) e
    ∙ ap (λ (x : Option ℤ). checked_add (Some s) x) g) (omega arith)

pub sum_left : (start : Option ℤ) (f : ℕ → Option ℤ) (i n : ℕ) (s t : ℤ) → checked_sum start i f
    ≡ Some s → f i ≡ Some t → i128_of (s +ℤ t) ≡ None → i < n → checked_sum start n f ≡ None
sum_left start f i n s t e g h l =
    checked_sum-none start f (i + 1) n (sum_step start f i s t None e g (sym h)) (omega arith)

-- one more term, by what `plus` answered
pub plus_step : (start : Option ℤ) (f : ℕ → Option ℤ) (i : ℕ) (s t o : Option ℤ)
    → checked_sum start i f ≡ s → f i ≡ t → o ≡ checked_add s t → checked_sum start (i + 1) f ≡ o
plus_step start f i s t o e g h = checked_sum-more start i f
    ∙ ap (λ (x : Option ℤ). checked_add x (f i)) e ∙ ap (λ (x : Option ℤ). checked_add s x) g
    ∙ sym h
