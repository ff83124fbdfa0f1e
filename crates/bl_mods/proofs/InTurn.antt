-- Dropping places of a list, and then places of what is left.
use Rattle.std.proofs.Common.{◌≡◌, ℕ, suc, ◌+◌, ◌-◌, ◌<◌, ◌≤◌, List, [], ◌∷◌, ◌++◌, length, refl}
use Rattle.std.proofs.Common.{ap, sym, ◌∙◌, subst, arith, append_assoc, Bool, true, false, cond}
use Rattle.std.proofs.Common.{inl, inr, ◌⊎◌, take, drop, get_or}
use Rattle.std.specs.Prelude.{All, map, nat_lt, nat_le, ◌==◌, ◌||◌}
use Rattle.std.specs.List.{filter}
use Rattle.std.proofs.lemmas.Bool.{cond-true, cond-false, lt-ltb, le-ltb, ltb-true, ltb-false}
use Rattle.std.proofs.lemmas.Bool.{le-leb, lt-leb, cases_order, cases_Bool, ne_eqb}
use Rattle.std.proofs.lemmas.List.{drop_more, take-append-drop}
use Rattle.std.proofs.lemmas.List.Elements.{All-append, All-filter, All-cons, All-head, All-tail}
use Rattle.std.proofs.lemmas.List.Elements.{All-map, All-weaker, filter_passes}
use Rattle.bl_mods.specs.declared.mods.ListMods.{ListMods}
use Rattle.bl_mods.specs.Mods.{kept_from, is_among}
use Rattle.bl_mods.specs.InTurn.{dropped_in_turn, places_below, relisted_in_turn, DropsWithin}
use Rattle.bl_mods.specs.InTurn.{DoesBoth}
use Rattle.bl_mods.specs.Rising.{is_rising_from}
use Rattle.bl_mods.proofs.RisingLemmas.{rising_head, rising_cons, rising_weaker, rising_at}
use Rattle.bl_mods.proofs.Keeping.{kept_drops, kept_keeps, kept_past}

-- no later place comes before the first one
none_before : (passed p least : ℕ) (later : List ℕ) → p ≤ least + passed
    → is_rising_from least later ≡ true → filter (λ q. nat_lt (q + passed) p) later ≡ []
none_before passed p least [] h r = refl
none_before passed p least (q ∷ later) h r =
    let head = rising_head least q later r in
    let low : least ≤ q = head.0 in
    cond-false (nat_lt (q + passed) p) _ _ (le-ltb (q + passed) p (omega (arith, h, low)))
    ∙ none_before passed p (q + 1) later (omega (arith, h, low)) head.1

all_behind : (passed p least : ℕ) (later : List ℕ) → p ≤ least + passed
    → is_rising_from least later ≡ true → filter (λ q. nat_le p (q + passed)) later ≡ later
all_behind passed p least [] h r = refl
all_behind passed p least (q ∷ later) h r =
    let head = rising_head least q later r in
    let low : least ≤ q = head.0 in
    cond-true (nat_le p (q + passed)) _ _ (le-leb p (q + passed) (omega (arith, h, low)))
    ∙ ap (λ l. q ∷ l) (all_behind passed p (q + 1) later (omega (arith, h, low)) head.1)

-- the next place is the first's
pub in_turn_first : (passed p least : ℕ) (first later : List ℕ) → p ≤ least + passed
    → is_rising_from least later ≡ true
    → dropped_in_turn passed (p ∷ first) later ≡ p ∷ dropped_in_turn (passed + 1) first later
in_turn_first passed p least first later h r =
    ap (λ (l : List ℕ). map (λ q. q + passed) l ++ p
    ∷ dropped_in_turn (passed + 1) first (filter (λ q. nat_le p (q + passed)) later))
    (none_before passed p least later h r)
    ∙ ap (λ (l : List ℕ). p ∷ dropped_in_turn (passed + 1) first l)
    (all_behind passed p least later h r)

-- the next place is the later's
pub in_turn_later : (passed p q : ℕ) (first later : List ℕ) → q + passed < p
    → dropped_in_turn passed (p ∷ first) (q ∷ later) ≡ (q + passed)
    ∷ dropped_in_turn passed (p ∷ first) later
in_turn_later passed p q first later h =
    ap (λ (l : List ℕ). map (λ k. k + passed) l ++ p
    ∷ dropped_in_turn (passed + 1) first (filter (λ k. nat_le p (k + passed)) (q ∷ later)))
    (cond-true (nat_lt (q + passed) p) (q ∷ filter (λ k. nat_lt (k + passed) p) later)
    (filter (λ k. nat_lt (k + passed) p) later) (lt-ltb (q + passed) p h))
    ∙ ap (λ (l : List ℕ). map (λ k. k + passed) (q ∷ filter (λ k. nat_lt (k + passed) p) later)
    ++ p ∷ dropped_in_turn (passed + 1) first l)
    (cond-false (nat_le p (q + passed)) (q ∷ filter (λ k. nat_le p (k + passed)) later)
    (filter (λ k. nat_le p (k + passed)) later) (lt-leb p (q + passed) h))

-- the dropped places rise
pub rising_in_turn : (least passed lower : ℕ) (first later : List ℕ) → is_rising_from least first
    ≡ true → is_rising_from lower later ≡ true → least ≤ lower + passed
    → is_rising_from least (dropped_in_turn passed first later) ≡ true
rising_in_turn least passed lower [] [] r s h = refl
rising_in_turn least passed lower [] (q ∷ later) r s h =
    let head = rising_head lower q later s in
    let low : lower ≤ q = head.0 in
    rising_cons least (q + passed) (dropped_in_turn passed [] later) (omega (arith, low, h))
    (rising_in_turn (q + passed + 1) passed (q + 1) [] later refl head.1 (omega arith))
rising_in_turn least passed lower (p ∷ first) [] r s h =
    let front = rising_head least p first r in
    rising_cons least p (dropped_in_turn (passed + 1) first []) front.0
    (rising_in_turn (p + 1) (passed + 1) p first [] front.1 refl (omega arith))
rising_in_turn least passed lower (p ∷ first) (q ∷ later) r s h =
    let front = rising_head least p first r in
    let head = rising_head lower q later s in
    let low : lower ≤ q = head.0 in
    let here : is_rising_from q (q ∷ later) ≡ true = rising_cons q q later (omega arith) head.1 in
    let says : List ℕ → Type 0 = λ (l : List ℕ). is_rising_from least l ≡ true in
    elim (cases_Bool (nat_lt (q + passed) p)) [
      | inl t ↦ (let b : q + passed < p = ltb-true (q + passed) p t in
          subst says (sym (in_turn_later passed p q first later b))
          (rising_cons least (q + passed) (dropped_in_turn passed (p ∷ first) later)
          (omega (arith, low, h))
          (rising_in_turn (q + passed + 1) passed (q + 1) (p ∷ first) later
          (rising_cons (q + passed + 1) p first (omega (arith, b)) front.1) head.1
          (omega arith))))
      | inr f ↦ (let b : p ≤ q + passed = ltb-false (q + passed) p f in
          subst says (sym (in_turn_first passed p q first (q ∷ later) b here))
          (rising_cons least p (dropped_in_turn (passed + 1) first (q ∷ later)) front.0
          (rising_in_turn (p + 1) (passed + 1) q first (q ∷ later) front.1 here
          (omega (arith, b)))))
    ]

-- the dropped places are places of the list
pub within_in_turn : (n passed : ℕ) (first later : List ℕ) → All (λ p. p < n) first
    → All (λ q. q + (passed + length first) < n) later
    → All (λ p. p < n) (dropped_in_turn passed first later)
within_in_turn n passed [] later a b =
    All-map (λ p. p < n) (λ q. q + passed) later
    (All-weaker (λ q. q + (passed + 0) < n) (λ q. q + passed < n) (λ q h. omega (arith, h))
    later b)
within_in_turn n passed (p ∷ first) later a b =
    All-append (λ p. p < n) (map (λ q. q + passed) (filter (λ q. nat_lt (q + passed) p) later))
    (p ∷ dropped_in_turn (passed + 1) first (filter (λ q. nat_le p (q + passed)) later))
    (All-map (λ k. k < n) (λ q. q + passed) (filter (λ q. nat_lt (q + passed) p) later)
    (All-weaker (λ q. q + (passed + length (p ∷ first)) < n) (λ q. q + passed < n)
    (λ q h. omega (arith, h)) (filter (λ q. nat_lt (q + passed) p) later)
    (All-filter (λ q. nat_lt (q + passed) p) (λ q. q + (passed + length (p ∷ first)) < n) later b)))
    (All-cons (λ k. k < n) p (dropped_in_turn (passed + 1) first
    (filter (λ q. nat_le p (q + passed)) later)) (All-head (λ k. k < n) p first a)
    (within_in_turn n (passed + 1) first (filter (λ q. nat_le p (q + passed)) later)
    (All-tail (λ k. k < n) p first a)
    (All-weaker (λ q. q + (passed + length (p ∷ first)) < n) (λ q. q + (passed + 1 + length first)
    < n) (λ q h. omega (arith, h)) (filter (λ q. nat_le p (q + passed)) later)
    (All-filter (λ q. nat_le p (q + passed)) (λ q. q + (passed + length (p ∷ first)) < n) later
    b))))

-- a rising list begins with the place, or all of it stands behind
pub record BeginsAt (at : ℕ) (ps : List ℕ) : Type 0 where
  pub rest : List ℕ
  pub is : ps ≡ at ∷ rest
  pub rises : is_rising_from (at + 1) rest ≡ true

pub begins_or_behind : (at : ℕ) (ps : List ℕ) → is_rising_from at ps ≡ true → BeginsAt at ps
    ⊎ (is_rising_from (at + 1) ps ≡ true)
begins_or_behind at [] r = inr refl
begins_or_behind at (p ∷ ps) r =
    let head = rising_head at p ps r in
    let low : at ≤ p = head.0 in
    elim (cases_order p at) [
      | inl e ↦ inl (record {
        rest = ps;
        is = ap (λ (k : ℕ). k ∷ ps) e;
        rises =
            subst (λ (k : ℕ). is_rising_from (k + 1) ps ≡ true) e head.1;
      })
      | inr o ↦ elim o [
        | inl b ↦ absurd (omega (arith, b, low))
        | inr b ↦ inr (rising_cons (at + 1) p ps (omega (arith, b)) head.1)
      ]
    ]

-- a later place in front of all of the first's
in_turn_next : (passed q at : ℕ) (first later : List ℕ) → at ≡ q + passed
    → is_rising_from (at + 1) first ≡ true → dropped_in_turn passed first (q ∷ later) ≡ at
    ∷ dropped_in_turn passed first later
in_turn_next passed q at [] later e r = ap (λ (k : ℕ). k ∷ dropped_in_turn passed [] later) (sym e)
in_turn_next passed q at (p ∷ first) later e r =
    let head = rising_head (at + 1) p first r in
    let low : at + 1 ≤ p = head.0 in
    in_turn_later passed p q first later (omega (arith, e, low))
    ∙ ap (λ (k : ℕ). k ∷ dropped_in_turn passed (p ∷ first) later) (sym e)

-- what dropping in turn keeps
pub kept_in_turn : {T : Type 0} (q passed at : ℕ) (first later : List ℕ) (list : List T) → at ≡ q
    + passed → is_rising_from at first ≡ true → is_rising_from q later ≡ true
    → kept_from at (dropped_in_turn passed first later) list
    ≡ kept_from q later (kept_from at first list)
kept_in_turn q passed at first later [] e r s = refl
kept_in_turn {T} q passed at first later (x ∷ xs) e r s =
    elim (begins_or_behind at first r) [
      | inl b ↦ (let d : dropped_in_turn passed first later ≡ at
          ∷ dropped_in_turn (passed + 1) b.rest later =
          ap (λ (l : List ℕ). dropped_in_turn passed l later) b.is
          ∙ in_turn_first passed at q b.rest later (omega (arith, e)) s in
          ap (λ (l : List ℕ). kept_from at l (x ∷ xs)) d
          ∙ (kept_drops at (dropped_in_turn (passed + 1) b.rest later) x xs
          ∙ (kept_in_turn q (passed + 1) (at + 1) b.rest later xs (omega (arith, e)) b.rises s
          ∙ sym (ap (kept_from q later) (ap (λ (l : List ℕ). kept_from at l (x ∷ xs)) b.is
          ∙ kept_drops at b.rest x xs)))))
      | inr behind ↦ (let k : kept_from at first (x ∷ xs) ≡ x ∷ kept_from (at + 1) first xs =
          kept_keeps at first x xs behind in
          elim (begins_or_behind q later s) [
            | inl b ↦ (let d : dropped_in_turn passed first later ≡ at
                ∷ dropped_in_turn passed first b.rest =
                ap (λ (l : List ℕ). dropped_in_turn passed first l) b.is
                ∙ in_turn_next passed q at first b.rest e behind in
                ap (λ (l : List ℕ). kept_from at l (x ∷ xs)) d
                ∙ (kept_drops at (dropped_in_turn passed first b.rest) x xs
                ∙ (kept_in_turn (q + 1) passed (at + 1) first b.rest xs (omega (arith, e)) behind
                b.rises
                ∙ sym (ap (λ (l : List T). kept_from q later l) k
                ∙ (ap (λ (l : List ℕ). kept_from q l (x ∷ kept_from (at + 1) first xs)) b.is
                ∙ kept_drops q b.rest x (kept_from (at + 1) first xs))))))
            | inr far ↦ kept_keeps at (dropped_in_turn passed first later) x xs
                (rising_in_turn (at + 1) passed (q + 1) first later behind far (omega (arith, e)))
                ∙ (ap (λ (l : List T). x ∷ l)
                (kept_in_turn (q + 1) passed (at + 1) first later xs (omega (arith, e)) behind
                far)
                ∙ sym (ap (λ (l : List T). kept_from q later l) k
                ∙ kept_keeps q later x (kept_from (at + 1) first xs) far))
          ])
    ]

-- how many items stay
pub length_kept : {T : Type 0} (at : ℕ) (ps : List ℕ) (list : List T) → is_rising_from at ps
    ≡ true → All (λ p. p < at + length list) ps → length (kept_from at ps list) + length ps
    ≡ length list
length_kept at [] [] r a = refl
length_kept at (p ∷ ps) [] r a =
    let head = rising_head at p ps r in
    let low : at ≤ p = head.0 in
    let high : p < at + 0 = All-head (λ k. k < at + 0) p ps a in
    absurd (omega (arith, low, high))
length_kept {T} at ps (x ∷ xs) r a =
    elim (begins_or_behind at ps r) [
      | inl b ↦ (let all : All (λ p. p < at + 1 + length xs) b.rest =
          All-weaker (λ p. p < at + length (x ∷ xs)) (λ p. p < at + 1 + length xs)
          (λ p h. omega (arith, h)) b.rest
          (All-tail (λ p. p < at + length (x ∷ xs)) at b.rest
          (subst (λ (l : List ℕ). All (λ p. p < at + length (x ∷ xs)) l) b.is a)) in
          let ih = length_kept (at + 1) b.rest xs b.rises all in
          let k : length (kept_from at ps (x ∷ xs)) ≡ length (kept_from (at + 1) b.rest xs) =
          ap length (ap (λ (l : List ℕ). kept_from at l (x ∷ xs)) b.is
          ∙ kept_drops at b.rest x xs) in
          let n : length ps ≡ suc (length b.rest) = ap length b.is in
          omega (arith, ih, k, n))
      | inr behind ↦ (let all : All (λ p. p < at + 1 + length xs) ps =
          All-weaker (λ p. p < at + length (x ∷ xs)) (λ p. p < at + 1 + length xs)
          (λ p h. omega (arith, h)) ps a in
          let ih = length_kept (at + 1) ps xs behind all in
          let k : length (kept_from at ps (x ∷ xs)) ≡ suc (length (kept_from (at + 1) ps xs)) =
          ap length (kept_keeps at ps x xs behind) in
          omega (arith, ih, k))
    ]

-- a rising list of places of n items has at most n of them
pub most_places : (least n : ℕ) (ps : List ℕ) → is_rising_from least ps ≡ true
    → All (λ p. p < n) ps → least ≤ n → length ps + least ≤ n
most_places least n [] r a h = omega (arith, h)
most_places least n (p ∷ ps) r a h =
    let head = rising_head least p ps r in
    let low : least ≤ p = head.0 in
    let high : p < n = All-head (λ k. k < n) p ps a in
    let rest : length ps + (p + 1) ≤ n =
    most_places (p + 1) n ps head.1 (All-tail (λ k. k < n) p ps a) (omega (arith, high)) in
    omega (arith, rest, low)

pub kept-append : {T : Type 0} (at : ℕ) (ps : List ℕ) (xs ys : List T)
    → kept_from at ps (xs ++ ys) ≡ kept_from at ps xs ++ kept_from (at + length xs) ps ys
kept-append {T} at ps [] ys = let same : at ≡ at + 0 =
    omega arith in ap (λ (k : ℕ). kept_from k ps ys) same
kept-append {T} at ps (x ∷ xs) ys =
    let ih = kept-append (at + 1) ps xs ys in
    let n : at + 1 + length xs ≡ at + length (x ∷ xs) = omega arith in
    let whole : kept_from (at + 1) ps (xs ++ ys) ≡ kept_from (at + 1) ps xs
    ++ kept_from (at + length (x ∷ xs)) ps ys =
    ih ∙ ap (λ (k : ℕ). kept_from (at + 1) ps xs ++ kept_from k ps ys) n in
    by_case (is_among at ps) whole
  where
    by_case : (b : Bool) → kept_from (at + 1) ps (xs ++ ys) ≡ kept_from (at + 1) ps xs
        ++ kept_from (at + length (x ∷ xs)) ps ys
        → cond b (kept_from (at + 1) ps (xs ++ ys)) (x ∷ kept_from (at + 1) ps (xs ++ ys))
        ≡ cond b (kept_from (at + 1) ps xs) (x ∷ kept_from (at + 1) ps xs)
        ++ kept_from (at + length (x ∷ xs)) ps ys
    by_case true h = h
    by_case false h = ap (λ l. x ∷ l) h

-- a place below the bound is among the places exactly where it is among those below the bound
among_below : (bound k : ℕ) (ps : List ℕ) → k < bound → is_among k (places_below bound ps)
    ≡ is_among k ps
among_below bound k [] h = refl
among_below bound k (p ∷ ps) h =
    let ih = among_below bound k ps h in
    elim (cases_Bool (nat_lt p bound)) [
      | inl t ↦ ap (is_among k) (cond-true (nat_lt p bound) (p ∷ places_below bound ps)
          (places_below bound ps) t) ∙ ap (λ (b : Bool). (p == k) || b) ih
      | inr f ↦ (let far : bound ≤ p = ltb-false p bound f in
          let other : (p == k) ≡ false = ne_eqb p k (λ e. omega (arith, e, far, h)) in
          ap (is_among k) (cond-false (nat_lt p bound) (p ∷ places_below bound ps)
          (places_below bound ps) f) ∙ (ih ∙ sym (ap (λ (b : Bool). b || is_among k ps) other)))
    ]

pub kept_below : {T : Type 0} (bound at : ℕ) (ps : List ℕ) (xs : List T) → at + length xs ≤ bound
    → kept_from at (places_below bound ps) xs ≡ kept_from at ps xs
kept_below bound at ps [] h = refl
kept_below {T} bound at ps (x ∷ xs) h =
    let ih = kept_below bound (at + 1) ps xs (omega (arith, h)) in
    ap (λ (b : Bool). cond b (kept_from (at + 1) (places_below bound ps) xs)
    (x ∷ kept_from (at + 1) (places_below bound ps) xs))
    (among_below bound at ps (omega (arith, h)))
    ∙ ap (λ (l : List T). cond (is_among at ps) l (x ∷ l)) ih

pub rising_below : (bound least : ℕ) (ps : List ℕ) → is_rising_from least ps ≡ true
    → is_rising_from least (places_below bound ps) ≡ true
rising_below bound least [] r = refl
rising_below bound least (p ∷ ps) r =
    let head = rising_head least p ps r in
    let low : least ≤ p = head.0 in
    let ih = rising_below bound (p + 1) ps head.1 in
    elim (cases_Bool (nat_lt p bound)) [
      | inl t ↦ subst (λ (l : List ℕ). is_rising_from least l ≡ true)
          (sym (cond-true (nat_lt p bound) (p ∷ places_below bound ps) (places_below bound ps) t))
          (rising_cons least p (places_below bound ps) low ih)
      | inr f ↦ subst (λ (l : List ℕ). is_rising_from least l ≡ true)
          (sym (cond-false (nat_lt p bound) (p ∷ places_below bound ps) (places_below bound ps)
          f)) (rising_weaker (p + 1) least (places_below bound ps) ih (omega (arith, low)))
    ]

pub all_below : (bound : ℕ) (ps : List ℕ) → All (λ p. p < bound) (places_below bound ps)
all_below bound ps = All-weaker (λ p. nat_lt p bound ≡ true) (λ p. p < bound)
    (λ p t. ltb-true p bound t) (places_below bound ps) (filter_passes (λ p. nat_lt p bound) ps)

-- the places split at the bound
pub below_front : (bound : ℕ) (front ps : List ℕ) → All (λ p. p < bound) front
    → is_rising_from bound ps ≡ true → places_below bound (front ++ ps) ≡ front
below_front bound [] [] a r = refl
below_front bound [] (p ∷ ps) a r =
    let head = rising_head bound p ps r in
    cond-false (nat_lt p bound) _ _ (le-ltb p bound head.0)
    ∙ below_front bound [] ps (λ k d h. absurd (omega (arith, h)))
    (rising_weaker (p + 1) bound ps head.1 (let low : bound ≤ p = head.0 in omega (arith, low)))
below_front bound (q ∷ front) ps a r =
    cond-true (nat_lt q bound) _ _ (lt-ltb q bound (All-head (λ p. p < bound) q front a))
    ∙ ap (λ l. q ∷ l) (below_front bound front ps (All-tail (λ p. p < bound) q front a) r)

-- places that were passed drop nothing any more
pub kept_behind_front : {T : Type 0} (bound : ℕ) (front ps : List ℕ) (xs : List T)
    → All (λ p. p < bound) front → kept_from bound (front ++ ps) xs ≡ kept_from bound ps xs
kept_behind_front bound [] ps xs a = refl
kept_behind_front bound (q ∷ front) ps xs a =
    kept_past bound q (front ++ ps) xs (All-head (λ p. p < bound) q front a)
    ∙ kept_behind_front bound front ps xs (All-tail (λ p. p < bound) q front a)

-- relisting in turn does what both do
pub does_both : {C : Type 0} (n : ℕ) (first later : ListMods C) → is_rising_from 0 first.dropped
    ≡ true → is_rising_from 0 later.dropped ≡ true → DropsWithin n first
    → DoesBoth n first later (relisted_in_turn n first later)
does_both {C} n first later r s a list e =
    let kept : List C = kept_from 0 first.dropped list in
    let stay : ℕ = n - length first.dropped in
    let count : length kept + length first.dropped ≡ length list =
    length_kept 0 first.dropped list r (let k : n ≡ 0 + length list =
    omega (arith, e) in subst (λ (m : ℕ). All (λ p. p < m) first.dropped) k a) in
    let stays : length kept ≡ stay = omega (arith, count, e) in
    let front : kept_from 0 (dropped_in_turn 0 first.dropped (places_below stay later.dropped))
    list ≡ kept_from 0 later.dropped kept =
    kept_in_turn 0 0 0 first.dropped (places_below stay later.dropped) list (omega arith) r
    (rising_below stay 0 later.dropped s)
    ∙ kept_below stay 0 later.dropped kept (omega (arith, stays)) in
    let whole : kept_from 0 later.dropped (kept ++ first.added) ≡ kept_from 0 later.dropped kept
    ++ kept_from stay later.dropped first.added =
    kept-append 0 later.dropped kept first.added ∙ ap (λ (k : ℕ). kept_from 0 later.dropped kept
    ++ kept_from k later.dropped first.added) (let k : 0 + length kept ≡ stay =
    omega (arith, stays) in k) in
    ap (λ (l : List C). l ++ (kept_from stay later.dropped first.added ++ later.added)) front
    ∙ (sym (append_assoc (kept_from 0 later.dropped kept)
    (kept_from stay later.dropped first.added) later.added)
    ∙ ap (λ (l : List C). l ++ later.added) (sym whole))

-- only places of the list are dropped in turn
pub within_both : {C : Type 0} (n : ℕ) (first later : ListMods C) → is_rising_from 0 first.dropped
    ≡ true → DropsWithin n first → DropsWithin n (relisted_in_turn n first later)
within_both n first later r a =
    let stay : ℕ = n - length first.dropped in
    let most : length first.dropped + 0 ≤ n = most_places 0 n first.dropped r a (omega arith) in
    within_in_turn n 0 first.dropped (places_below stay later.dropped) a
    (All-weaker (λ q. q < stay) (λ q. q + (0 + length first.dropped) < n)
    (λ q h. omega (arith, h, most)) (places_below stay later.dropped)
    (all_below stay later.dropped))

-- steps of the walk over both
pub step_first : (at next : ℕ) (first later : List ℕ) → at < length first → next < length later
    → is_rising_from 0 later ≡ true → get_or first at 0 ≤ get_or later next 0 + at
    → dropped_in_turn at (drop at first) (drop next later) ≡ get_or first at 0
    ∷ dropped_in_turn (at + 1) (drop (at + 1) first) (drop next later)
step_first at next first later h k r low =
    ap (λ (l : List ℕ). dropped_in_turn at l (drop next later)) (drop_more first at 0 h)
    ∙ in_turn_first at (get_or first at 0) (get_or later next 0) (drop (at + 1) first)
    (drop next later) low (rising_at (get_or later next 0) next later r k (omega arith))

-- the places in front of the split are those below the bound
pub split_below : (bound n : ℕ) (ps : List ℕ) → All (λ p. p < bound) (take n ps)
    → is_rising_from bound (drop n ps) ≡ true → places_below bound ps ≡ take n ps
split_below bound n ps a r = ap (places_below bound) (sym (take-append-drop n ps))
    ∙ below_front bound (take n ps) (drop n ps) a r

-- what the split parts make is both in turn
pub relisted_parts : {C : Type 0} (count n : ℕ) (first later : ListMods C)
    (d1 d2 dropped : List ℕ) (added : List C) → d1 ≡ first.dropped → d2 ≡ later.dropped
    → All (λ p. p < count - length d1) (take n d2)
    → is_rising_from (count - length d1) (drop n d2) ≡ true
    → dropped ≡ dropped_in_turn 0 d1 (take n d2) → added
    ≡ kept_from (count - length d1) (drop n d2) first.added ++ later.added
    → record { dropped = dropped; added = added } ≡ relisted_in_turn count first later
relisted_parts {C} count n first later d1 d2 dropped added e1 e2 a r d l =
    let stay : ℕ = count - length d1 in
    let drops : dropped ≡ dropped_in_turn 0 first.dropped
    (places_below (count - length first.dropped) later.dropped) =
    d ∙ (ap (dropped_in_turn 0 d1) (sym (split_below stay n d2 a r))
    ∙ (ap (λ (ps : List ℕ). dropped_in_turn 0 ps (places_below (count - length ps) d2)) e1
    ∙ ap (λ (ps : List ℕ). dropped_in_turn 0 first.dropped
    (places_below (count - length first.dropped) ps)) e2)) in
    let keeps : kept_from stay (drop n d2) first.added ≡ kept_from stay d2 first.added =
    sym (kept_behind_front stay (take n d2) (drop n d2) first.added a)
    ∙ ap (λ (ps : List ℕ). kept_from stay ps first.added) (take-append-drop n d2) in
    let adds : added ≡ kept_from (count - length first.dropped) later.dropped first.added
    ++ later.added =
    l ∙ ap (λ (xs : List C). xs ++ later.added)
    (keeps ∙ (ap (λ (ps : List ℕ). kept_from (count - length ps) d2 first.added) e1
    ∙ ap (λ (ps : List ℕ). kept_from (count - length first.dropped) ps first.added) e2)) in
    let with_dropped : List ℕ → ListMods C = λ ps. record { dropped = ps; added = added } in
    let with_added : List C → ListMods C =
    λ xs. record {
      dropped = dropped_in_turn 0 first.dropped
          (places_below (count - length first.dropped) later.dropped);
      added = xs;
    } in
    ap with_dropped drops ∙ ap with_added adds
