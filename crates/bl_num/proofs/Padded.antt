-- The digits of a fraction.
use Rattle.std.proofs.Common.{◌≡◌, ◌≢◌, ℕ, zero, suc, ◌+◌, ◌-◌, ◌*◌, ◌/◌, ◌%◌, ◌^◌, ◌<◌, Bool}
use Rattle.std.proofs.Common.{true, false, cond, eqb, List, [], ◌∷◌, ◌++◌, refl, sym, ap, ◌∙◌}
use Rattle.std.proofs.Common.{arith, append_assoc}
use Rattle.std.proofs.lemmas.Nat.{div-add-mod', mod_below, div_below}
use Rattle.std.proofs.lemmas.Bool.{eqb-true, ne_eqb}
use Rattle.std.proofs.lemmas.List.{append-nil}
use Rattle.bl_num.specs.Decimals.{kept_digit, trimmed}
use Rattle.bl_num.specs.Texts.{padded}
use Rattle.bl_num.proofs.Powers.{ten_pow-positive}

pub small-div : (r k : ℕ) → r < 10 ^ k → r / 10 ^ k ≡ 0
small-div r k h = let l : r / 10 ^ k < 1 =
    div_below r (10 ^ k) 1 (ten_pow-positive k) (omega arith) in omega arith

pub no_quotient : (r k : ℕ) → r / 10 ^ k ≡ 0 → r % 10 ^ k ≡ r
no_quotient r k e = let m = ap (λ (x : ℕ). x * 10 ^ k) e in let d =
    div-add-mod' r (10 ^ k) in omega arith

pub trimmed-padded_zero : (k : ℕ) → trimmed (padded k 0) ≡ []
trimmed-padded_zero zero = refl
trimmed-padded_zero (suc k) =
    let d = small-div 0 k (ten_pow-positive k) in
    rw (d, no_quotient 0 k d, trimmed-padded_zero k) refl

kept_nil : (d : ℕ) (ds : List ℕ) → kept_digit d ds ≡ [] → (d ≡ 48) × (ds ≡ [])
kept_nil d [] e = by (eqb d 48) refl e where
  by : (t : Bool) → eqb d 48 ≡ t → cond {A = List ℕ} t [] (d ∷ []) ≡ [] → (d ≡ 48)
      × (◌≡◌ {A = List ℕ} [] [])
  by true h q = (eqb-true d 48 h, refl)
  by false h q = absurd cc
kept_nil d (x ∷ ds) e = absurd cc

pub trimmed-padded : (k r : ℕ) → r < 10 ^ k → 0 < r → trimmed (padded k r) ≢ []
trimmed-padded zero r h l e = absurd (omega arith)
trimmed-padded (suc k) r h l e =
    let q = kept_nil (48 + r / 10 ^ k) (trimmed (padded k (r % 10 ^ k))) e in
    let n = no_quotient r k (omega (arith, q.0)) in
    trimmed-padded k (r % 10 ^ k) (mod_below r (10 ^ k) (ten_pow-positive k)) (omega (arith, n)) q.1

kept-filled : (d : ℕ) (ds : List ℕ) → (ds ≡ [] → d ≢ 48) → kept_digit d ds ≡ d ∷ ds
kept-filled d [] h = ap (λ (t : Bool). cond t [] (d ∷ [])) (ne_eqb d 48 (h refl))
kept-filled d (x ∷ ds) h = refl

-- one digit of a fraction that is not zero
pub trimmed-step : (left r : ℕ) → r < 10 ^ left → 0 < r → trimmed (padded left r)
    ≡ (48 + r / 10 ^ (left - 1)) ∷ trimmed (padded (left - 1) (r % 10 ^ (left - 1)))
trimmed-step zero r h l = absurd (omega arith)
trimmed-step (suc k) r h l =
    let e : suc k - 1 ≡ k = omega arith in
    rw e (kept-filled (48 + r / 10 ^ k) (trimmed (padded k (r % 10 ^ k))) (λ n d.
    let q = no_quotient r k (omega (arith, d)) in
    trimmed-padded k (r % 10 ^ k) (mod_below r (10 ^ k) (ten_pow-positive k)) (omega (arith, q)) n))

-- and where it is put behind what was written
pub step-written : (items new whole : List ℕ) (left r unit : ℕ) → r < 10 ^ left → 0 < r → unit
    ≡ 10 ^ (left - 1) → new ≡ items ++ (48 + r / unit) ∷ [] →
    items ++ trimmed (padded left r) ≡ whole → new ++ trimmed (padded (left - 1) (r % unit)) ≡ whole
step-written items new whole left r unit h l u n w =
    let rest = trimmed (padded (left - 1) (r % 10 ^ (left - 1))) in
    rw (n, u) (append_assoc items ((48 + r / 10 ^ (left - 1)) ∷ []) rest
    ∙ ap (λ (xs : List ℕ). items ++ xs) (sym (trimmed-step left r h l)) ∙ w)

-- nothing is left to write
pub end-written : (items whole : List ℕ) (left r : ℕ) → r ≡ 0 → items ++ trimmed (padded left r)
    ≡ whole → items ≡ whole
end-written items whole left r z w =
    sym (append-nil items) ∙ ap (λ (xs : List ℕ). items ++ xs) (sym (trimmed-padded_zero left))
    ∙ ap (λ (n : ℕ). items ++ trimmed (padded left n)) (sym z) ∙ w
