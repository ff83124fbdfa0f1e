-- Digits that are read one after another.
use Rattle.std.proofs.Common.{◌≡◌, ℕ, ◌+◌, ◌-◌, ◌*◌, ◌^◌, Bool, true, false, cond, eqb, List, []}
use Rattle.std.proofs.Common.{◌∷◌, ◌++◌, length, refl, ap, ◌∙◌, arith}
use Rattle.std.specs.Prelude.{fold}
use Rattle.std.proofs.Math.Nat.{pow-succ'}
use Rattle.std.proofs.lemmas.Bool.{eqb-true}
use Rattle.std.proofs.Common.{add-one}
use Rattle.std.proofs.lemmas.List.Sums.{fold_push}
use Rattle.bl_num.specs.Decimals.{whole_number, kept_digit, trimmed}

-- one more digit
pub whole_push : (ds : List ℕ) (d : ℕ) → whole_number (ds ++ d ∷ []) ≡ 10 * whole_number ds
    + (d - 48)
whole_push ds d = fold_push (λ n c. 10 * n + (c - 48)) 0 ds d

kept_not_nil : (d : ℕ) (ds : List ℕ) (e : ℕ) (es : List ℕ) → ds ≡ e ∷ es → kept_digit d ds ≡ d ∷ ds
kept_not_nil d [] e es h = absurd cc
kept_not_nil d (x ∷ ds) e es h = refl

-- a zero at the end is trimmed
pub trimmed_zero : (ds : List ℕ) → trimmed (ds ++ 48 ∷ []) ≡ trimmed ds
trimmed_zero [] = refl
trimmed_zero (d ∷ ds) = ap (kept_digit d) (trimmed_zero ds)

last_kept : (d : ℕ) → eqb d 48 ≡ false → trimmed (d ∷ []) ≡ d ∷ []
last_kept d e = ap (λ (b : Bool). cond b [] (d ∷ [])) e

kept_front : (c d : ℕ) (ds : List ℕ) → kept_digit c (ds ++ d ∷ []) ≡ c ∷ (ds ++ d ∷ [])
kept_front c d [] = refl
kept_front c d (x ∷ ds) = refl

-- another digit ends the trimming
pub trimmed_digit : (ds : List ℕ) (d : ℕ) → eqb d 48 ≡ false → trimmed (ds ++ d ∷ []) ≡ ds ++ d ∷ []
trimmed_digit [] d e = last_kept d e
trimmed_digit (c ∷ ds) d e = ap (kept_digit c) (trimmed_digit ds d e) ∙ kept_front c d ds

-- digits behind a number
abbrev pub whole_from : ℕ → List ℕ → ℕ
whole_from n ds = fold (λ m c. 10 * m + (c - 48)) n ds

ten_more : (n k : ℕ) → (10 * n + 0) * 10 ^ k ≡ n * 10 ^ (k + 1)
ten_more n k = let p = pow-succ' 10 k in rw (add-one, p) (grind (arith))

shift : (n d : ℕ) (ds kept : List ℕ) → trimmed ds ≡ kept → ((m : ℕ) → whole_from m ds
    ≡ whole_from m kept * 10 ^ (length ds - length kept)) → whole_from n (d ∷ ds)
    ≡ whole_from n (kept_digit d kept) * 10 ^ (length (d ∷ ds) - length (kept_digit d kept))
shift n d ds (e ∷ es) h ih =
    let k : length (d ∷ ds) - length (d ∷ e ∷ es) ≡ length ds - length (e ∷ es) = omega arith in
    rw k (ih (10 * n + (d - 48)))
shift n d ds [] h ih = by (eqb d 48) refl where
  by : (t : Bool) → eqb d 48 ≡ t → whole_from n (d ∷ ds)
      ≡ whole_from n (cond t [] (d ∷ [])) * 10 ^ (length (d ∷ ds) - length (cond t [] (d ∷ [])))
  by true e =
      let z : d ≡ 48 = eqb-true d 48 e in
      let k : length (d ∷ ds) - 0 ≡ length ds + 1 = omega arith in
      let l : length ds - 0 ≡ length ds = omega arith in
      rw (k, z) (rw l at (ih (10 * n + 0)) ∙ ten_more n (length ds))
  by false e =
      let k : length (d ∷ ds) - 1 ≡ length ds - 0 = omega arith in
      rw k (ih (10 * n + (d - 48)))

-- trailing zeros multiply by ten
pub whole_trimmed : (n : ℕ) (ds : List ℕ) → whole_from n ds
    ≡ whole_from n (trimmed ds) * 10 ^ (length ds - length (trimmed ds))
whole_trimmed n [] = omega arith
whole_trimmed n (d ∷ ds) = shift n d ds (trimmed ds) refl (λ m. whole_trimmed m ds)
