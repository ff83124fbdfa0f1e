-- A walk over a list beside the rising places that it drops.
use Rattle.std.proofs.Common.{◌≡◌, ◌≢◌, ◌-◌, drop, get_or, inl, inr, ℕ, ◌+◌, ◌<◌, ◌≤◌, List, []}
use Rattle.std.proofs.Common.{◌∷◌, length, refl, ap, sym, ◌∙◌, arith, true, false, cond}
use Rattle.std.specs.Prelude.{◌==◌, ◌||◌, nat_le}
use Rattle.std.proofs.lemmas.List.{drop_more, drop_all, length-drop, get_or-drop}
use Rattle.std.proofs.lemmas.Bool.{or_left, or_from, and_from, le-leb, cases_order, cond-true}
use Rattle.std.proofs.lemmas.Bool.{cond-false, eq-eqb, ne_eqb}
use Rattle.bl_mods.specs.Mods.{kept_from, is_among}
use Rattle.bl_mods.specs.Rising.{is_rising_from}
use Rattle.bl_mods.proofs.RisingLemmas.{rising_head}

-- a place below all of a rising list isn't among it
pub not_among : (k least : ℕ) (ps : List ℕ) → is_rising_from least ps ≡ true → k < least
    → is_among k ps ≡ false
not_among k least [] r h = refl
not_among k least (p ∷ ps) r h =
    let head = rising_head least p ps r in
    let low : least ≤ p = head.0 in
    or_from (p == k) (is_among k ps) (ne_eqb p k (λ e. omega (arith, e, h, low)))
    (not_among k (p + 1) ps head.1 (omega (arith, h, low)))

-- a place that was passed drops nothing any more
pub kept_past : {T : Type 0} (at p : ℕ) (ps : List ℕ) (xs : List T) → p < at
    → kept_from at (p ∷ ps) xs ≡ kept_from at ps xs
kept_past at p ps [] h = refl
kept_past {T} at p ps (x ∷ xs) h =
    let e : (p == at) ≡ false = ne_eqb p at (λ q. omega (arith, q, h)) in
    let ih = kept_past (at + 1) p ps xs (omega (arith, h)) in
    ap (λ b. cond (b || is_among at ps) (kept_from (at + 1) (p ∷ ps) xs)
    (x ∷ kept_from (at + 1) (p ∷ ps) xs)) e
    ∙ ap (λ (l : List T). cond (is_among at ps) l (x ∷ l)) ih

-- the next dropped place is here
pub kept_drops : {T : Type 0} (at : ℕ) (ps : List ℕ) (x : T) (xs : List T)
    → kept_from at (at ∷ ps) (x ∷ xs) ≡ kept_from (at + 1) ps xs
kept_drops at ps x xs =
    cond-true (is_among at (at ∷ ps)) _ _
    (or_left (at == at) (is_among at ps) (eq-eqb at at refl))
    ∙ kept_past (at + 1) at ps xs (omega arith)

-- the next dropped place is further on
pub kept_keeps : {T : Type 0} (at : ℕ) (ps : List ℕ) (x : T) (xs : List T)
    → is_rising_from (at + 1) ps ≡ true → kept_from at ps (x ∷ xs) ≡ x ∷ kept_from (at + 1) ps xs
kept_keeps at ps x xs r = cond-false (is_among at ps) _ _ (not_among at (at + 1) ps r (omega arith))

-- a step of the walk, at a dropped place
pub walk_drops : {T : Type 0} (start at next : ℕ) (ps : List ℕ) (xs : List T) (x : T) → at
    < length xs → next < length ps → get_or ps next 0 ≡ start + at
    → kept_from (start + at) (drop next ps) (drop at xs)
    ≡ kept_from (start + (at + 1)) (drop (next + 1) ps) (drop (at + 1) xs)
walk_drops {T} start at next ps xs x h n e =
    let more : start + at + 1 ≡ start + (at + 1) = omega arith in
    ap (λ (l : List T). kept_from (start + at) (drop next ps) l) (drop_more xs at x h)
    ∙ (ap (λ (l : List ℕ). kept_from (start + at) l (get_or xs at x ∷ drop (at + 1) xs))
    (drop_more ps next 0 n ∙ ap (λ (k : ℕ). k ∷ drop (next + 1) ps) e)
    ∙ (kept_drops (start + at) (drop (next + 1) ps) (get_or xs at x) (drop (at + 1) xs)
    ∙ ap (λ (k : ℕ). kept_from k (drop (next + 1) ps) (drop (at + 1) xs)) more))

pub rising_drops : (at next : ℕ) (ps : List ℕ) → next < length ps → get_or ps next 0 ≡ at
    → is_rising_from at (drop next ps) ≡ true → is_rising_from (at + 1) (drop (next + 1) ps) ≡ true
rising_drops at next ps n e r =
    let s : drop next ps ≡ at ∷ drop (next + 1) ps = drop_more ps next 0 n
    ∙ ap (λ (k : ℕ). k ∷ drop (next + 1) ps) e in
    (rising_head at at (drop (next + 1) ps) (ap (is_rising_from at) (sym s) ∙ r)).1

rising_above : (at : ℕ) (ps : List ℕ) → is_rising_from at ps ≡ true
    → (0 < length ps → get_or ps 0 0 ≢ at) → is_rising_from (at + 1) ps ≡ true
rising_above at [] r ne = refl
rising_above at (p ∷ ps) r ne =
    let head = rising_head at p ps r in
    let low : at ≤ p = head.0 in
    let other : p ≢ at = ne (omega arith) in
    let more : at + 1 ≤ p = elim (cases_order p at) [
      | inl e ↦ absurd (other e)
      | inr s ↦ elim s
          [ inl below ↦ omega (arith, below, low) | inr above ↦ omega (arith, above) ]
    ] in
    and_from (nat_le (at + 1) p) (is_rising_from (p + 1) ps) (le-leb (at + 1) p more) head.1

pub rising_keeps : (at next : ℕ) (ps : List ℕ) → is_rising_from at (drop next ps) ≡ true
    → (next < length ps → get_or ps next 0 ≢ at) → is_rising_from (at + 1) (drop next ps) ≡ true
rising_keeps at next ps r ne =
    let len : length (drop next ps) ≡ length ps - next = length-drop next ps in
    let first : get_or (drop next ps) 0 0 ≡ get_or ps (next + 0) 0 = get_or-drop next ps 0 0 in
    let zero_more : next + 0 ≡ next = omega arith in
    rising_above at (drop next ps) r
    (λ h e. ne (omega (arith, h, len)) (sym (first ∙ ap (λ (k : ℕ). get_or ps k 0) zero_more)
    ∙ e))

-- a step of the walk, at a place that stays
pub walk_keeps : {T : Type 0} (start at next : ℕ) (ps : List ℕ) (xs : List T) (x : T) → at
    < length xs → is_rising_from (start + at) (drop next ps) ≡ true
    → (next < length ps → get_or ps next 0 ≢ start + at)
    → kept_from (start + at) (drop next ps) (drop at xs) ≡ get_or xs at x
    ∷ kept_from (start + (at + 1)) (drop next ps) (drop (at + 1) xs)
walk_keeps {T} start at next ps xs x h r ne =
    let more : start + at + 1 ≡ start + (at + 1) = omega arith in
    ap (λ (l : List T). kept_from (start + at) (drop next ps) l) (drop_more xs at x h)
    ∙ (kept_keeps (start + at) (drop next ps) (get_or xs at x) (drop (at + 1) xs)
    (rising_keeps (start + at) next ps r ne)
    ∙ ap (λ (k : ℕ). get_or xs at x ∷ kept_from k (drop next ps) (drop (at + 1) xs)) more)

-- the next place isn't in front of the walk
pub next_from : (at next : ℕ) (ps : List ℕ) → is_rising_from at (drop next ps) ≡ true → next
    < length ps → at ≤ get_or ps next 0
next_from at next ps r n =
    (rising_head at (get_or ps next 0) (drop (next + 1) ps)
    (ap (is_rising_from at) (sym (drop_more ps next 0 n)) ∙ r)).0

-- nothing is left to keep
pub walk_ends : {T : Type 0} (at : ℕ) (ps : List ℕ) (xs : List T) → length xs ≤ at
    → kept_from at ps (drop at xs) ≡ []
walk_ends {T} at ps xs h = ap (λ (l : List T). kept_from at ps l) (drop_all at xs h)
