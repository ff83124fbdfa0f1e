-- Rising lists of places.
use Rattle.std.proofs.Common.{◌≡◌, ℕ, zero, suc, ◌+◌, ◌<◌, ◌≤◌, List, [], ◌∷◌, ◌++◌, length}
use Rattle.std.proofs.Common.{get_or, drop, refl, ap, sym, ◌∙◌, subst, arith, true}
use Rattle.std.specs.Prelude.{All, nat_le}
use Rattle.std.proofs.lemmas.Bool.{and_parts, and_from, leb-true, le-leb}
use Rattle.std.proofs.lemmas.List.{map-append, drop_more, drop-map}
use Rattle.std.proofs.lemmas.List.Elements.{All-nil, All-cons, All-head, All-tail}
use Rattle.bl_mods.specs.declared.mods.Mod.{Mod}
use Rattle.bl_mods.specs.Rising.{is_rising_from, IsRising, places, AreRising}

rising_push : (least : ℕ) (ps : List ℕ) (p : ℕ) → is_rising_from least ps ≡ true → least ≤ p
    → All (λ q. q < p) ps → is_rising_from least (ps ++ p ∷ []) ≡ true
rising_push least [] p r l all = and_from (nat_le least p) true (le-leb least p l) refl
rising_push least (q ∷ ps) p r l all =
    let parts = and_parts (nat_le least q) (is_rising_from (q + 1) ps) r in
    let below : q < p = all 0 q (omega arith) in
    and_from (nat_le least q) (is_rising_from (q + 1) (ps ++ p ∷ [])) parts.0
    (rising_push (q + 1) ps p parts.1 (omega (arith, below))
    (λ k d h. all (suc k) d (omega (arith, h))))

pub IsRising-push : (ps : List ℕ) (p : ℕ) → IsRising ps → All (λ q. q < p) ps
    → IsRising (ps ++ p ∷ [])
IsRising-push ps p r all = rising_push 0 ps p r (omega arith) all

places_below : {T : Type 0} (ms : List (Mod T)) (p : ℕ) → All (λ m. m.place < p) ms
    → All (λ q. q < p) (places ms)
places_below [] p all k d h = absurd (omega (arith, h))
places_below (m ∷ ms) p all zero d h = all 0 m (omega arith)
places_below (m ∷ ms) p all (suc k) d h =
    places_below ms p (λ j e b. all (suc j) e (omega (arith, b))) k d (omega (arith, h))

pub AreRising-push : {T : Type 0} (ms : List (Mod T)) (m : Mod T) → AreRising ms
    → All (λ n. n.place < m.place) ms → AreRising (ms ++ m ∷ [])
AreRising-push {T} ms m r all =
    subst (λ (l : List ℕ). IsRising l) (sym (map-append (λ (n : Mod T). n.place) ms (m ∷ [])))
    (IsRising-push (places ms) m.place r (places_below ms m.place all))

-- the head of a rising list, and what follows it
pub rising_head : (least p : ℕ) (ps : List ℕ) → is_rising_from least (p ∷ ps) ≡ true → (least ≤ p)
    × (is_rising_from (p + 1) ps ≡ true)
rising_head least p ps r =
    let parts = and_parts (nat_le least p) (is_rising_from (p + 1) ps) r in
    (leb-true least p parts.0, parts.1)

pub rising_cons : (least p : ℕ) (ps : List ℕ) → least ≤ p → is_rising_from (p + 1) ps ≡ true
    → is_rising_from least (p ∷ ps) ≡ true
rising_cons least p ps h r =
    and_from (nat_le least p) (is_rising_from (p + 1) ps) (le-leb least p h) r

pub rising_weaker : (least lower : ℕ) (ps : List ℕ) → is_rising_from least ps ≡ true → lower
    ≤ least → is_rising_from lower ps ≡ true
rising_weaker least lower [] r h = refl
rising_weaker least lower (p ∷ ps) r h =
    let head = rising_head least p ps r in
    let low : least ≤ p = head.0 in
    rising_cons lower p ps (omega (arith, h, low)) head.1

-- what follows a place of a rising list rises
pub rising_drop : (least i : ℕ) (ps : List ℕ) → is_rising_from least ps ≡ true
    → is_rising_from least (drop i ps) ≡ true
rising_drop least zero ps r = r
rising_drop least (suc i) [] r = refl
rising_drop least (suc i) (p ∷ ps) r =
    let head = rising_head least p ps r in
    let low : least ≤ p = head.0 in
    rising_weaker (p + 1) least (drop i ps) (rising_drop (p + 1) i ps head.1) (omega (arith, low))

-- all places in front of one of a rising list are below it
pub rising_front : (least : ℕ) (front : List ℕ) (p : ℕ) (ps : List ℕ)
    → is_rising_from least (front ++ p ∷ ps) ≡ true → All (λ q. q < p) front
rising_front least [] p ps r = All-nil (λ q. q < p)
rising_front least (q ∷ front) p ps r =
    let head = rising_head least q (front ++ p ∷ ps) r in
    let low : q + 1 ≤ p = rising_least (q + 1) front p ps head.1 in
    All-cons (λ k. k < p) q front (omega (arith, low)) (rising_front (q + 1) front p ps head.1)
  where
    rising_least : (n : ℕ) (xs : List ℕ) (k : ℕ) (ks : List ℕ) → is_rising_from n (xs ++ k ∷ ks)
        ≡ true → n ≤ k
    rising_least n [] k ks r = (rising_head n k ks r).0
    rising_least n (x ∷ xs) k ks r =
        let head = rising_head n x (xs ++ k ∷ ks) r in
        let low : n ≤ x = head.0 in
        let rest : x + 1 ≤ k = rising_least (x + 1) xs k ks head.1 in
        omega (arith, low, rest)

-- what is left after some entries were taken, in rising order
pub places_front : {T : Type 0} (front : List (Mod T)) (m : Mod T) (rest whole : List (Mod T))
    → front ++ m ∷ rest ≡ whole → AreRising whole → All (λ n. n.place < m.place) front
places_front {T} front m rest whole e r =
    let whole_rises : is_rising_from 0 (places (front ++ m ∷ rest)) ≡ true =
    subst (λ (l : List (Mod T)). is_rising_from 0 (places l) ≡ true) (sym e) r in
    let parts : is_rising_from 0 (places front ++ m.place ∷ places rest) ≡ true =
    subst (λ (l : List ℕ). is_rising_from 0 l ≡ true)
    (map-append (λ (n : Mod T). n.place) front (m ∷ rest)) whole_rises in
    below front (rising_front 0 (places front) m.place (places rest) parts)
  where
    below : (ns : List (Mod T)) → All (λ q. q < m.place) (places ns)
        → All (λ n. n.place < m.place) ns
    below [] all = All-nil (λ n. n.place < m.place)
    below (n ∷ ns) all =
        All-cons (λ k. k.place < m.place) n ns (All-head (λ q. q < m.place) n.place (places ns)
        all) (below ns (All-tail (λ q. q < m.place) n.place (places ns) all))

-- from a place of a rising list on, the places are at least that one
pub rising_at : (bound i : ℕ) (ps : List ℕ) → is_rising_from 0 ps ≡ true → i < length ps → bound
    ≤ get_or ps i 0 → is_rising_from bound (drop i ps) ≡ true
rising_at bound i ps r h b =
    let here : drop i ps ≡ get_or ps i 0 ∷ drop (i + 1) ps = drop_more ps i 0 h in
    let rises : is_rising_from 0 (get_or ps i 0 ∷ drop (i + 1) ps) ≡ true =
    ap (is_rising_from 0) (sym here) ∙ rising_drop 0 i ps r in
    ap (is_rising_from bound) here ∙ rising_cons bound (get_or ps i 0) (drop (i + 1) ps) b
    (rising_head 0 (get_or ps i 0) (drop (i + 1) ps) rises).1

pub places_rise_at : {T : Type 0} (bound i : ℕ) (ms : List (Mod T)) (m : Mod T) → AreRising ms → i
    < length ms → m ≡ get_or ms i m → bound ≤ m.place → is_rising_from bound (places (drop i ms))
    ≡ true
places_rise_at {T} bound i ms m r h e b =
    let here : drop i ms ≡ m ∷ drop (i + 1) ms = drop_more ms i m h
    ∙ ap (λ (x : Mod T). x ∷ drop (i + 1) ms) (sym e) in
    let rises : is_rising_from 0 (m.place ∷ places (drop (i + 1) ms)) ≡ true =
    ap (λ (l : List (Mod T)). is_rising_from 0 (places l)) (sym here)
    ∙ (ap (is_rising_from 0) (sym (drop-map (λ (x : Mod T). x.place) i ms))
    ∙ rising_drop 0 i (places ms) r) in
    ap (λ (l : List (Mod T)). is_rising_from bound (places l)) here
    ∙ rising_cons bound m.place (places (drop (i + 1) ms)) b
    (rising_head 0 m.place (places (drop (i + 1) ms)) rises).1
