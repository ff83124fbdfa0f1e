-- The places where two lists differ, where one more entry is written.
use Rattle.std.proofs.Common.{◌≡◌, ℕ, zero, suc, ◌+◌, ◌<◌, List, [], ◌∷◌, length, refl, ap, sym}
use Rattle.std.proofs.Common.{◌∙◌, arith, Bool, true, false, cond}
use Rattle.std.specs.Prelude.{slice_set}
use Rattle.std.proofs.lemmas.Bool.{cond-false}
use Rattle.bl_mods.specs.declared.mods.Mod.{Mod}
use Rattle.bl_mods.specs.Mods.{differences, differences_from, DiffersAt}
use Rattle.bl_mods.specs.InTurn.{overlaid}
use Rattle.bl_mods.specs.Rising.{is_rising_from, places}
use Rattle.bl_mods.proofs.RisingLemmas.{rising_cons, rising_weaker}
use Rattle.bl_mods.proofs.Overlays.{overlaid_first, overlaid_later, overlaid_same}

-- the places where two lists differ rise
pub rising-differences : {T : Type 0} (same : T → T → Bool) (at : ℕ) (old new : List T)
    → is_rising_from at (places (differences_from same at old new)) ≡ true
rising-differences same at [] new = refl
rising-differences same at (x ∷ old) [] = refl
rising-differences {T} same at (x ∷ old) (y ∷ new) =
    by (same x y) (rising-differences same (at + 1) old new)
  where
    by : (b : Bool) → is_rising_from (at + 1) (places (differences_from same (at + 1) old new))
        ≡ true → is_rising_from at
        (places (cond b (differences_from same (at + 1) old new) (record { place = at; entry = y }
        ∷ differences_from same (at + 1) old new))) ≡ true
    by true i = rising_weaker (at + 1) at (places (differences_from same (at + 1) old new)) i
        (omega arith)
    by false i = rising_cons at at (places (differences_from same (at + 1) old new)) (omega arith) i

abbrev entry_at : {T : Type 0} → ℕ → T → Mod T
entry_at p e = record { place = p; entry = e }

-- the first places are the same
here : {T : Type 0} (b : Bool) (at : ℕ) (y e : T) (rest : List (Mod T))
    → is_rising_from (at + 1) (places rest) ≡ true
    → entry_at at e ∷ rest ≡ overlaid (cond b rest (entry_at at y ∷ rest)) (entry_at at e ∷ [])
here true at y e rest r = sym (overlaid_later (entry_at at e) rest [] r)
here false at y e rest r = sym (overlaid_same (entry_at at y) (entry_at at e) rest [] refl r)

-- the place lies behind the first one
behind : {T : Type 0} (b : Bool) (at p : ℕ) (y e : T) (rest more : List (Mod T)) → at < p → more
    ≡ overlaid rest (entry_at p e ∷ [])
    → cond b more (entry_at at y ∷ more) ≡ overlaid (cond b rest (entry_at at y ∷ rest))
    (entry_at p e ∷ [])
behind true at p y e rest more h i = i
behind {T} false at p y e rest more h i = ap (λ (l : List (Mod T)). entry_at at y ∷ l) i
    ∙ sym (overlaid_first (entry_at at y) (entry_at p e) rest [] h)

differences_from-set : {T : Type 0} (same : T → T → Bool) (at k : ℕ) (e : T) (old new : List T)
    → k < length new → DiffersAt same old k e
    → (p : ℕ) → p ≡ at + k → differences_from same at old (slice_set new k e)
    ≡ overlaid (differences_from same at old new) (entry_at p e ∷ [])
differences_from-set same at k e [] new h d p q = absurd (let l = d.0 in omega (arith, l))
differences_from-set same at k e (x ∷ old) [] h d p q = absurd (omega (arith, h))
differences_from-set {T} same at zero e (x ∷ old) (y ∷ new) h d p q =
    let rest = differences_from same (at + 1) old new in
    let e0 : at ≡ p = omega (arith, q) in
    cond-false (same x e) _ _ (d.1 e)
    ∙ (here (same x y) at y e rest (rising-differences same (at + 1) old new)
    ∙ ap (λ (n : ℕ). overlaid (differences_from same at (x ∷ old) (y ∷ new)) (entry_at n e ∷ []))
    e0)
differences_from-set {T} same at (suc k) e (x ∷ old) (y ∷ new) h d p q =
    let l = d.0 in
    behind (same x y) at p y e (differences_from same (at + 1) old new)
    (differences_from same (at + 1) old (slice_set new k e)) (omega (arith, q))
    (differences_from-set same (at + 1) k e old new (omega (arith, h))
    (omega (arith, l), λ z. d.1 z) p (omega (arith, q)))

pub differences-set : {T : Type 0} (same : T → T → Bool) (k : ℕ) (e : T) (old new : List T) → k
    < length new → DiffersAt same old k e
    → differences same old (slice_set new k e)
    ≡ overlaid (differences same old new) (entry_at k e ∷ [])
differences-set same k e old new h d = differences_from-set same 0 k e old new h d k (omega arith)
