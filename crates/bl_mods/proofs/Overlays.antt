-- Writing earlier and then later entries.
use Rattle.std.proofs.Common.{◌≡◌, ◌≢◌, ℕ, ◌+◌, ◌<◌, ◌≤◌, List, [], ◌∷◌, ◌++◌, length, get_or}
use Rattle.std.proofs.Common.{drop, refl, ap, sym, ◌∙◌, subst, arith, true, inl, inr}
use Rattle.std.specs.Prelude.{slice_set, nat_lt, nat_le, All}
use Rattle.std.proofs.lemmas.Bool.{and_from, cond-true, cond-false, lt-ltb, le-ltb, ltb-true}
use Rattle.std.proofs.lemmas.Bool.{le-leb, cases_order, cases_Bool}
use Rattle.std.proofs.lemmas.List.{set-set, set_comm, drop_more}
use Rattle.std.proofs.lemmas.List.Elements.{All-append, All-filter, All-cons, All-head, All-tail}
use Rattle.bl_mods.specs.declared.mods.Mod.{Mod}
use Rattle.bl_mods.specs.Mods.{written}
use Rattle.bl_mods.specs.InTurn.{entries_below, entries_above, overlaid}
use Rattle.bl_mods.specs.Rising.{is_rising_from, AreRising, places}
use Rattle.bl_mods.proofs.RisingLemmas.{rising_head, rising_cons, rising_weaker, places_rise_at}

pub written-append : {T : Type 0} (xs ys : List (Mod T)) (list : List T) → written (xs ++ ys) list
    ≡ written ys (written xs list)
written-append [] ys list = refl
written-append (m ∷ xs) ys list = written-append xs ys (slice_set list m.place m.entry)

-- entries behind a place don't meet a write at it
written_set : {T : Type 0} (p least : ℕ) (v : T) (xs : List (Mod T)) (list : List T) → p < least
    → is_rising_from least (places xs) ≡ true
    → written xs (slice_set list p v) ≡ slice_set (written xs list) p v
written_set p least v [] list h r = refl
written_set {T} p least v (m ∷ xs) list h r =
    let head = rising_head least m.place (places xs) r in
    let low : least ≤ m.place = head.0 in
    let differ : p ≢ m.place = λ e. omega (arith, e, h, low) in
    ap (λ (l : List T). written xs l) (set_comm list p m.place v m.entry differ)
    ∙ written_set p (m.place + 1) v xs (slice_set list m.place m.entry) (omega (arith, h, low))
    head.1

-- all entries stand behind the place
none_below : {T : Type 0} (p least : ℕ) (xs : List (Mod T)) → p ≤ least
    → is_rising_from least (places xs) ≡ true → entries_below p xs ≡ []
none_below p least [] h r = refl
none_below p least (m ∷ xs) h r =
    let head = rising_head least m.place (places xs) r in
    let low : least ≤ m.place = head.0 in
    cond-false (nat_lt m.place p) _ _ (le-ltb m.place p (omega (arith, h, low)))
    ∙ none_below p (m.place + 1) xs (omega (arith, h, low)) head.1

all_above : {T : Type 0} (p least : ℕ) (xs : List (Mod T)) → p < least
    → is_rising_from least (places xs) ≡ true → entries_above p xs ≡ xs
all_above p least [] h r = refl
all_above p least (m ∷ xs) h r =
    let head = rising_head least m.place (places xs) r in
    let low : least ≤ m.place = head.0 in
    cond-true (nat_lt p m.place) _ _ (lt-ltb p m.place (omega (arith, h, low)))
    ∙ ap (λ l. m ∷ l) (all_above p (m.place + 1) xs (omega (arith, h, low)) head.1)

-- what is behind a place rises from it
above_rises : {T : Type 0} (p least : ℕ) (xs : List (Mod T)) → is_rising_from least (places xs)
    ≡ true → is_rising_from (p + 1) (places (entries_above p xs)) ≡ true
above_rises p least [] r = refl
above_rises {T} p least (m ∷ xs) r =
    let head = rising_head least m.place (places xs) r in
    elim (cases_Bool (nat_lt p m.place)) [
      | inl t ↦ (let b : p < m.place = ltb-true p m.place t in
          let same : entries_above p xs ≡ xs =
          all_above p (m.place + 1) xs (omega (arith, b)) head.1 in
          let here : entries_above p (m ∷ xs) ≡ m ∷ xs = cond-true (nat_lt p m.place) _ _ t
          ∙ ap (λ l. m ∷ l) same in
          let rises : is_rising_from (p + 1) (places (m ∷ xs)) ≡ true =
          and_from (nat_le (p + 1) m.place) (is_rising_from (m.place + 1) (places xs))
          (le-leb (p + 1) m.place (omega (arith, b))) head.1 in
          subst (λ (l : List (Mod T)). is_rising_from (p + 1) (places l) ≡ true) (sym here) rises)
      | inr f ↦ subst (λ (l : List (Mod T)). is_rising_from (p + 1) (places l) ≡ true)
          (sym (cond-false (nat_lt p m.place) _ _ f)) (above_rises p (m.place + 1) xs head.1)
    ]

-- the entries around a place, with a later entry at it
around : {T : Type 0} (p least : ℕ) (v : T) (xs : List (Mod T)) (list : List T)
    → is_rising_from least (places xs) ≡ true
    → written (entries_above p xs) (slice_set (written (entries_below p xs) list) p v)
    ≡ slice_set (written xs list) p v
around p least v [] list r = refl
around {T} p least v (m ∷ xs) list r =
    let head = rising_head least m.place (places xs) r in
    elim (cases_order m.place p) [
      | inl e ↦ (let low : entries_below p (m ∷ xs) ≡ [] =
          cond-false (nat_lt m.place p) _ _ (le-ltb m.place p (omega (arith, e)))
          ∙ none_below p (m.place + 1) xs (omega (arith, e)) head.1 in
          let high : entries_above p (m ∷ xs) ≡ xs = cond-false (nat_lt p m.place) _ _
          (le-ltb p m.place (omega (arith, e)))
          ∙ all_above p (m.place + 1) xs (omega (arith, e)) head.1 in
          ap (λ (l : List (Mod T)). written l
          (slice_set (written (entries_below p (m ∷ xs)) list) p v)) high
          ∙ (ap (λ (l : List (Mod T)). written xs (slice_set (written l list) p v)) low
          ∙ (ap (λ (l : List T). written xs l)
          (sym (ap (λ (q : ℕ). slice_set (slice_set list q m.entry) p v) e
          ∙ set-set list p m.entry v))
          ∙ written_set p (m.place + 1) v xs (slice_set list m.place m.entry) (omega (arith, e))
          head.1)))
      | inr s ↦ elim s [
        | inl b ↦ (let low : entries_below p (m ∷ xs) ≡ m ∷ entries_below p xs =
            cond-true (nat_lt m.place p) _ _ (lt-ltb m.place p b) in
            let high : entries_above p (m ∷ xs) ≡ entries_above p xs =
            cond-false (nat_lt p m.place) _ _ (le-ltb p m.place (omega (arith, b))) in
            ap (λ (l : List (Mod T)). written l
            (slice_set (written (entries_below p (m ∷ xs)) list) p v)) high
            ∙ (ap (λ (l : List (Mod T)). written (entries_above p xs)
            (slice_set (written l list) p v)) low
            ∙ around p (m.place + 1) v xs (slice_set list m.place m.entry) head.1))
        | inr b ↦ (let rises : is_rising_from (p + 1) (places (m ∷ xs)) ≡ true =
            and_from (nat_le (p + 1) m.place) (is_rising_from (m.place + 1) (places xs))
            (le-leb (p + 1) m.place (omega (arith, b))) head.1 in
            let low : entries_below p (m ∷ xs) ≡ [] =
            none_below p (p + 1) (m ∷ xs) (omega arith) rises in
            let high : entries_above p (m ∷ xs) ≡ m ∷ xs =
            all_above p (p + 1) (m ∷ xs) (omega arith) rises in
            ap (λ (l : List (Mod T)). written l
            (slice_set (written (entries_below p (m ∷ xs)) list) p v)) high
            ∙ (ap (λ (l : List (Mod T)). written (m ∷ xs) (slice_set (written l list) p v)) low
            ∙ written_set p (p + 1) v (m ∷ xs) list (omega arith) rises))
      ]
    ]

-- writing the overlaid entries is writing the earlier and then the later ones
pub written-overlaid : {T : Type 0} (least : ℕ) (xs ms : List (Mod T)) (list : List T)
    → is_rising_from least (places xs) ≡ true
    → written (overlaid xs ms) list ≡ written ms (written xs list)
written-overlaid least xs [] list r = refl
written-overlaid {T} least xs (m ∷ ms) list r =
    written-append (entries_below m.place xs) (m ∷ overlaid (entries_above m.place xs) ms) list
    ∙ (written-overlaid (m.place + 1) (entries_above m.place xs) ms
    (slice_set (written (entries_below m.place xs) list) m.place m.entry)
    (above_rises m.place least xs r)
    ∙ ap (λ (l : List T). written ms l) (around m.place least m.entry xs list r))

-- the first's next entry stands before the later's
pub overlaid_first : {T : Type 0} (x y : Mod T) (xs ys : List (Mod T)) → x.place < y.place
    → overlaid (x ∷ xs) (y ∷ ys) ≡ x ∷ overlaid xs (y ∷ ys)
overlaid_first {T} x y xs ys h =
    let low : entries_below y.place (x ∷ xs) ≡ x ∷ entries_below y.place xs =
    cond-true (nat_lt x.place y.place) _ _ (lt-ltb x.place y.place h) in
    let high : entries_above y.place (x ∷ xs) ≡ entries_above y.place xs =
    cond-false (nat_lt y.place x.place) _ _ (le-ltb y.place x.place (omega (arith, h))) in
    ap (λ (l : List (Mod T)). l ++ y ∷ overlaid (entries_above y.place (x ∷ xs)) ys) low
    ∙ ap (λ (l : List (Mod T)). (x ∷ entries_below y.place xs) ++ y ∷ overlaid l ys) high

-- the first's entries stand behind the later's next one
pub overlaid_later : {T : Type 0} (y : Mod T) (xs ys : List (Mod T))
    → is_rising_from (y.place + 1) (places xs) ≡ true → overlaid xs (y ∷ ys) ≡ y ∷ overlaid xs ys
overlaid_later {T} y xs ys r =
    let low : entries_below y.place xs ≡ [] = none_below y.place (y.place + 1) xs (omega arith) r in
    let high : entries_above y.place xs ≡ xs = all_above y.place (y.place + 1) xs (omega arith) r in
    ap (λ (l : List (Mod T)). l ++ y ∷ overlaid (entries_above y.place xs) ys) low
    ∙ ap (λ (l : List (Mod T)). y ∷ overlaid l ys) high

-- both have an entry at the place
pub overlaid_same : {T : Type 0} (x y : Mod T) (xs ys : List (Mod T)) → x.place ≡ y.place
    → is_rising_from (x.place + 1) (places xs) ≡ true → overlaid (x ∷ xs) (y ∷ ys) ≡ y
    ∷ overlaid xs ys
overlaid_same {T} x y xs ys e r =
    let low : entries_below y.place (x ∷ xs) ≡ [] = cond-false (nat_lt x.place y.place) _ _
    (le-ltb x.place y.place (omega (arith, e)))
    ∙ none_below y.place (x.place + 1) xs (omega (arith, e)) r in
    let high : entries_above y.place (x ∷ xs) ≡ xs = cond-false (nat_lt y.place x.place) _ _
    (le-ltb y.place x.place (omega (arith, e)))
    ∙ all_above y.place (x.place + 1) xs (omega (arith, e)) r in
    ap (λ (l : List (Mod T)). l ++ y ∷ overlaid (entries_above y.place (x ∷ xs)) ys) low
    ∙ ap (λ (l : List (Mod T)). y ∷ overlaid l ys) high

-- the overlaid entries rise
pub rising_overlaid : {T : Type 0} (least : ℕ) (xs ms : List (Mod T))
    → is_rising_from least (places xs) ≡ true → is_rising_from least (places ms) ≡ true
    → is_rising_from least (places (overlaid xs ms)) ≡ true
rising_overlaid least xs [] r s = r
rising_overlaid {T} least [] (m ∷ ms) r s =
    let head = rising_head least m.place (places ms) s in
    rising_cons least m.place (places (overlaid [] ms)) head.0
    (rising_overlaid (m.place + 1) [] ms refl head.1)
rising_overlaid {T} least (x ∷ xs) (m ∷ ms) r s =
    let front = rising_head least x.place (places xs) r in
    let head = rising_head least m.place (places ms) s in
    let says : List (Mod T) → Type 0 =
    λ (l : List (Mod T)). is_rising_from least (places l) ≡ true in
    elim (cases_order x.place m.place) [
      | inl e ↦ subst says (sym (overlaid_same x m xs ms e front.1))
          (rising_cons least m.place (places (overlaid xs ms)) head.0
          (rising_overlaid (m.place + 1) xs ms
          (rising_weaker (x.place + 1) (m.place + 1) (places xs) front.1 (omega (arith, e)))
          head.1))
      | inr o ↦ elim o [
        | inl b ↦ subst says (sym (overlaid_first x m xs ms b))
            (rising_cons least x.place (places (overlaid xs (m ∷ ms))) front.0
            (rising_overlaid (x.place + 1) xs (m ∷ ms) front.1
            (rising_cons (x.place + 1) m.place (places ms) (omega (arith, b)) head.1)))
        | inr b ↦ (let behind : is_rising_from (m.place + 1) (places (x ∷ xs)) ≡ true =
            rising_cons (m.place + 1) x.place (places xs) (omega (arith, b)) front.1 in
            subst says (sym (overlaid_later m (x ∷ xs) ms behind))
            (rising_cons least m.place (places (overlaid (x ∷ xs) ms)) head.0
            (rising_overlaid (m.place + 1) (x ∷ xs) ms behind head.1)))
      ]
    ]

-- what holds of each entry of both holds of the overlaid ones
pub All-overlaid : {T : Type 0} (P : Mod T → Type 0) (xs ms : List (Mod T)) → All P xs → All P ms
    → All P (overlaid xs ms)
All-overlaid P xs [] a b = a
All-overlaid {T} P xs (m ∷ ms) a b =
    All-append P (entries_below m.place xs) (m ∷ overlaid (entries_above m.place xs) ms)
    (All-filter (λ n. nat_lt n.place m.place) P xs a)
    (All-cons P m (overlaid (entries_above m.place xs) ms) (All-head P m ms b)
    (All-overlaid P (entries_above m.place xs) ms
    (All-filter (λ n. nat_lt m.place n.place) P xs a) (All-tail P m ms b)))

-- steps of the walk over both
from_there : {T : Type 0} (ms : List (Mod T)) (i : ℕ) (m : Mod T) → i < length ms → m
    ≡ get_or ms i m → drop i ms ≡ m ∷ drop (i + 1) ms
from_there {T} ms i m h e = drop_more ms i m h ∙ ap (λ (x : Mod T). x ∷ drop (i + 1) ms) (sym e)

pub step_later : {T : Type 0} (at next : ℕ) (first later : List (Mod T)) (y : Mod T) → next
    < length later → y ≡ get_or later next y
    → is_rising_from (y.place + 1) (places (drop at first)) ≡ true
    → overlaid (drop at first) (drop next later) ≡ y
    ∷ overlaid (drop at first) (drop (next + 1) later)
step_later {T} at next first later y k f r =
    ap (λ (l : List (Mod T)). overlaid (drop at first) l) (from_there later next y k f)
    ∙ overlaid_later y (drop at first) (drop (next + 1) later) r

pub step_same : {T : Type 0} (at next : ℕ) (first later : List (Mod T)) (x y : Mod T) → at
    < length first → next < length later → x ≡ get_or first at x → y ≡ get_or later next y
    → AreRising first
    → x.place ≡ y.place → overlaid (drop at first) (drop next later) ≡ y
    ∷ overlaid (drop (at + 1) first) (drop (next + 1) later)
step_same {T} at next first later x y h k e f r same =
    let whole : is_rising_from 0 (places (x ∷ drop (at + 1) first)) ≡ true =
    subst (λ (l : List (Mod T)). is_rising_from 0 (places l) ≡ true) (from_there first at x h e)
    (places_rise_at 0 at first x r h e (omega arith)) in
    ap (λ (l : List (Mod T)). overlaid l (drop next later)) (from_there first at x h e)
    ∙ (ap (λ (l : List (Mod T)). overlaid (x ∷ drop (at + 1) first) l) (from_there later next y k f)
    ∙ overlaid_same x y (drop (at + 1) first) (drop (next + 1) later) same
    (rising_head 0 x.place (places (drop (at + 1) first)) whole).1)
