-- The first column that has more than one value.
use Rattle.std.proofs.Common.{◌≡◌, ℕ, zero, suc, ◌<◌, ℤ, ◌<ℤ◌, arith, List, Option, Some, None}
use Rattle.std.proofs.Common.{Bool, true, false, cond, refl, sym, int_lt, ⊎_elim}
use Rattle.std.specs.Option.{option_or}
use Rattle.std.proofs.lemmas.Int.{ints}
use Rattle.std.proofs.lemmas.Bool.{cases_lt}
use Rattle.bl_num.specs.Exact.{at}
use Rattle.bl_heur.specs.Dives.{first_free}

here : (n m : ℕ) (lows highs : List ℤ) → first_free n lows highs ≡ None → at lows n <ℤ at highs n
    → first_free (suc n) lows highs ≡ Some n
here n m lows highs e w = rw e (by (int_lt (at lows n) (at highs n)) refl)
  where
    by : (t : Bool) → int_lt (at lows n) (at highs n) ≡ t → cond {A = Option ℕ} t (Some n) None
        ≡ Some n
    by true f = refl
    by false f = absurd (omega (arith, ints, f, w))

pub first_free-found : (n m : ℕ) (lows highs : List ℤ) → m < n → first_free m lows highs ≡ None
    → at lows m <ℤ at highs m → first_free n lows highs ≡ Some m
first_free-found zero m lows highs l e w = absurd (omega (arith, l))
first_free-found (suc n) m lows highs l e w = ⊎_elim
    (λ k. let i = first_free-found n m lows highs k e w in rw i refl)
    (λ k. let z : m ≡ n = omega (arith, l, k) in rw z (here n n lows highs (rw z at e) (rw z at w)))
    (cases_lt m n)

pub first_free-inside : (n j : ℕ) (lows highs : List ℤ) → first_free n lows highs ≡ Some j → j < n
first_free-inside zero j lows highs e = absurd cc
first_free-inside (suc n) j lows highs e =
    by (first_free n lows highs) (int_lt (at lows n) (at highs n)) refl e
    (λ k f. first_free-inside n k lows highs f)
  where
    by : (o : Option ℕ) (t : Bool) → first_free n lows highs ≡ o
        → option_or o (cond {A = Option ℕ} t (Some n) None) ≡ Some j
        → ((k : ℕ) → first_free n lows highs ≡ Some k → k < n) → j < suc n
    by (Some k) t f g h = let i = h k f in let z : k ≡ j = cc in omega (arith, i, z)
    by None true f g h = let z : n ≡ j = cc in omega (arith, z)
    by None false f g h = absurd cc

pub first_free-wide : (n j : ℕ) (lows highs : List ℤ) → first_free n lows highs ≡ Some j
    → at lows j <ℤ at highs j
first_free-wide zero j lows highs e = absurd cc
first_free-wide (suc n) j lows highs e =
    by (first_free n lows highs) (int_lt (at lows n) (at highs n)) refl refl e
    (λ k f. first_free-wide n k lows highs f)
  where
    by : (o : Option ℕ) (t : Bool) → first_free n lows highs ≡ o → int_lt (at lows n) (at highs n)
        ≡ t → option_or o (cond {A = Option ℕ} t (Some n) None) ≡ Some j →
        ((k : ℕ) → first_free n lows highs ≡ Some k → at lows k <ℤ at highs k)
        → at lows j <ℤ at highs j
    by (Some k) t f g e h = let z : k ≡ j = cc in rw (sym z) (h k f)
    by None true f g e h = let z : n ≡ j = cc in rw (sym z) (omega (arith, ints, g))
    by None false f g e h = absurd cc
