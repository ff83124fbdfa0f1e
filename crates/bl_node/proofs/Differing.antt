-- The canonical difference of a description and one with a smaller box and further cuts.
use Rattle.std.proofs.Common.{◌≡◌, ◌≢◌, ℕ, zero, suc, ◌+◌, ◌<◌, ℤ, ◌≤ℤ◌, ◌<ℤ◌, List, [], ◌∷◌}
use Rattle.std.proofs.Common.{◌++◌, length, arith, refl, sym, ◌∙◌, ap, subst, All, AllPairs, Bool}
use Rattle.std.proofs.Common.{true, false, cond}
use Rattle.std.specs.Prelude.{slice_get, slice_index_or, IfSome, ◌||◌}
use Rattle.std.specs.Ordering.{int_eq}
use Rattle.std.specs.Cmp.{int_eq_equiv}
use Rattle.std.proofs.lemmas.Int.{ints}
use Rattle.std.proofs.lemmas.Bool.{false≢true}
use Rattle.std.proofs.lemmas.List.Elements.{All-nil, All-cons, All-head, All-tail}
use Rattle.bl_num.specs.Exact.{at}
use Rattle.bl_mods.specs.declared.mods.Mod.{Mod}
use Rattle.bl_mods.specs.declared.mods.ItemId.{ItemId}
use Rattle.bl_mods.specs.Mods.{differences, differences_from, has_id, same_id, fresh_in, gone_from}
use Rattle.bl_mods.specs.Rising.{is_rising_from, places}
use Rattle.bl_mods.proofs.RisingLemmas.{rising_cons, rising_weaker}
use Rattle.bl_mods.proofs.Relisting.{Apart, Apart-from_pairs, pairs_from_apart, has_id-append}
use Rattle.bl_mods.proofs.Relisting.{same_id-is}
use Rattle.bl_mods.proofs.Going.{has_id_at}
use Rattle.std.proofs.lemmas.List.{get_or_default}
use Rattle.bl_problem.specs.Points.{InBox}
use Rattle.bl_problem.specs.Decisions.{MeetsAll}
use Rattle.bl_problem.specs.declared.decision.Side.TheVariants.{AtLeast, AtMost}
use Rattle.bl_journal.specs.Soundness.{Tightens, bounds_of}

-- ---- places that rise
pub rising-differences : {T : Type 0} (same : T → T → Bool) (at : ℕ) (old new : List T)
    → is_rising_from at (places (differences_from same at old new)) ≡ true
rising-differences same at [] new = refl
rising-differences same at (x ∷ old) [] = refl
rising-differences {T} same at (x ∷ old) (y ∷ new) =
    by (same x y) (rising-differences same (at + 1) old new)
  where
    by : (b : Bool) → is_rising_from (at + 1) (places (differences_from same (at + 1) old new))
        ≡ true → is_rising_from at
        (places (cond b (differences_from same (at + 1) old new) (record { place = at; entry = y }
        ∷ differences_from same (at + 1) old new))) ≡ true
    by true i = rising_weaker (at + 1) at (places (differences_from same (at + 1) old new)) i
        (omega arith)
    by false i = rising_cons at at (places (differences_from same (at + 1) old new)) (omega arith) i

pub rising-gone : {C : Type 0} (id_of : C → ItemId) (at : ℕ) (old new : List C)
    → is_rising_from at (gone_from id_of at old new) ≡ true
rising-gone id_of at [] new = refl
rising-gone {C} id_of at (x ∷ old) new =
    by (has_id id_of (id_of x) new) (rising-gone id_of (at + 1) old new)
  where
    by : (b : Bool) → is_rising_from (at + 1) (gone_from id_of (at + 1) old new) ≡ true
        → is_rising_from at (cond b (gone_from id_of (at + 1) old new)
        (at ∷ gone_from id_of (at + 1) old new)) ≡ true
    by true i = rising_weaker (at + 1) at (gone_from id_of (at + 1) old new) i (omega arith)
    by false i = rising_cons at at (gone_from id_of (at + 1) old new) (omega arith) i

-- ---- what holds of each place where two lists differ
all-differences : (P : ℕ → ℤ → Type 0) (start : ℕ) (old new : List ℤ)
    → ((k i : ℕ) → i ≡ start + k → k < length old → k < length new → ¬ (at old k ≡ at new k)
    → P i (at new k)) → All (λ m. P m.place m.entry) (differences_from int_eq start old new)
all-differences P start [] new h = All-nil (λ (m : Mod ℤ). P m.place m.entry)
all-differences P start (x ∷ old) [] h = All-nil (λ (m : Mod ℤ). P m.place m.entry)
all-differences P start (x ∷ old) (y ∷ new) h = by (int_eq x y) refl
    (all-differences P (start + 1) old new
    (λ k i e l m n. h (suc k) i (omega (arith, e)) (omega (arith, l)) (omega (arith, m)) n))
  where
    by : (b : Bool) → int_eq x y ≡ b → All (λ (m : Mod ℤ). P m.place m.entry) (differences_from
        int_eq (start + 1) old new) → All (λ (m : Mod ℤ). P m.place m.entry)
        (cond b (differences_from int_eq (start + 1) old new) (record { place = start; entry = y }
        ∷ differences_from int_eq (start + 1) old new))
    by true e i = i
    by false e i =
        All-cons (λ (m : Mod ℤ). P m.place m.entry) (record { place = start; entry = y })
        (differences_from int_eq (start + 1) old new)
        (h 0 start (omega arith) (omega arith) (omega arith)
        (λ d. false≢true
        (sym e ∙ (subst (λ (z : ℤ). int_eq x z ≡ true) d (int_eq_equiv.refl x))))) i

tightens-all : (R : ℤ → ℤ → Type 0) (list : List ℤ) (mods : List (Mod ℤ))
    → All (λ m. R (at list m.place) m.entry) mods → Tightens R mods list
tightens-all R list [] h = tt
tightens-all R list (m ∷ mods) h = (
  All-head (λ (n : Mod ℤ). R (at list n.place) n.entry) m mods h,
  tightens-all R list mods
      (All-tail (λ (n : Mod ℤ). R (at list n.place) n.entry) m mods h),
)

pub lows-rise : (old new : List ℤ) → ((j : ℕ) → at old j ≤ℤ at new j)
    → Tightens (λ o n. o <ℤ n) (differences int_eq old new) old
lows-rise old new h = tightens-all (λ o n. o <ℤ n) old (differences int_eq old new)
    (all-differences (λ i v. at old i <ℤ v) 0 old new (λ k i e l m d. let s : i ≡ k =
    omega (arith, e) in let g = h k in rw s (above (at old k) (at new k) g d)))
  where
    above : (a b : ℤ) → a ≤ℤ b → ¬ (a ≡ b) → a <ℤ b
    above a b l n = first_of (omega (arith, ints), grind (arith, ints, l, n))

pub highs-fall : (old new : List ℤ) → ((j : ℕ) → at new j ≤ℤ at old j)
    → Tightens (λ o n. n <ℤ o) (differences int_eq old new) old
highs-fall old new h = tightens-all (λ o n. n <ℤ o) old (differences int_eq old new)
    (all-differences (λ i v. v <ℤ at old i) 0 old new (λ k i e l m d. let s : i ≡ k =
    omega (arith, e) in let g = h k in rw s (below (at old k) (at new k) g d)))
  where
    below : (a b : ℤ) → b ≤ℤ a → ¬ (a ≡ b) → b <ℤ a
    below a b l n = first_of (omega (arith, ints), grind (arith, ints, l, n))

-- ---- what a point of the smaller box meets
entry-low : (lows highs x : List ℤ) (k : ℕ) → InBox lows highs x → k < length lows
    → IfSome (slice_get x k) (λ e. at lows k ≤ℤ e)
entry-low [] highs x k h l = absurd (omega (arith, l))
entry-low (a ∷ lows) [] [] k h l = absurd h
entry-low (a ∷ lows) [] (v ∷ x) k h l = absurd h
entry-low (a ∷ lows) (b ∷ highs) [] k h l = absurd h
entry-low (a ∷ lows) (b ∷ highs) (v ∷ x) zero h l = h.0
entry-low (a ∷ lows) (b ∷ highs) (v ∷ x) (suc k) h l =
    entry-low lows highs x k h.2 (omega (arith, l))

entry-high : (lows highs x : List ℤ) (k : ℕ) → InBox lows highs x → k < length highs
    → IfSome (slice_get x k) (λ e. e ≤ℤ at highs k)
entry-high [] [] [] k h l = absurd (omega (arith, l))
entry-high [] [] (v ∷ x) k h l = absurd h
entry-high [] (b ∷ highs) x k h l = absurd h
entry-high (a ∷ lows) [] [] k h l = absurd h
entry-high (a ∷ lows) [] (v ∷ x) k h l = absurd h
entry-high (a ∷ lows) (b ∷ highs) [] k h l = absurd h
entry-high (a ∷ lows) (b ∷ highs) (v ∷ x) zero h l = h.1
entry-high (a ∷ lows) (b ∷ highs) (v ∷ x) (suc k) h l =
    entry-high lows highs x k h.2 (omega (arith, l))

meets-lows_all : (x : List ℤ) (mods : List (Mod ℤ))
    → All (λ m. IfSome (slice_get x m.place) (λ e. m.entry ≤ℤ e)) mods
    → MeetsAll x (bounds_of AtLeast mods)
meets-lows_all x [] h = tt
meets-lows_all x (m ∷ mods) h = (
  All-head (λ (n : Mod ℤ). IfSome (slice_get x n.place) (λ e. n.entry ≤ℤ e)) m mods h,
  meets-lows_all x mods (All-tail
      (λ (n : Mod ℤ). IfSome (slice_get x n.place) (λ e. n.entry ≤ℤ e)) m mods h),
)

meets-highs_all : (x : List ℤ) (mods : List (Mod ℤ))
    → All (λ m. IfSome (slice_get x m.place) (λ e. e ≤ℤ m.entry)) mods
    → MeetsAll x (bounds_of AtMost mods)
meets-highs_all x [] h = tt
meets-highs_all x (m ∷ mods) h = (
  All-head (λ (n : Mod ℤ). IfSome (slice_get x n.place) (λ e. e ≤ℤ n.entry)) m mods h,
  meets-highs_all x mods (All-tail
      (λ (n : Mod ℤ). IfSome (slice_get x n.place) (λ e. e ≤ℤ n.entry)) m mods h),
)

pub meets-lows : (old lows highs x : List ℤ) → InBox lows highs x
    → MeetsAll x (bounds_of AtLeast (differences int_eq old lows))
meets-lows old lows highs x h = meets-lows_all x (differences int_eq old lows)
    (all-differences (λ i v. IfSome (slice_get x i) (λ e. v ≤ℤ e)) 0 old lows
    (λ k i e l m d. let s : i ≡ k = omega (arith, e) in rw s (entry-low lows highs x k h m)))

pub meets-highs : (old lows highs x : List ℤ) → InBox lows highs x
    → MeetsAll x (bounds_of AtMost (differences int_eq old highs))
meets-highs old lows highs x h = meets-highs_all x (differences int_eq old highs)
    (all-differences (λ i v. IfSome (slice_get x i) (λ e. e ≤ℤ v)) 0 old highs
    (λ k i e l m d. let s : i ≡ k = omega (arith, e) in rw s (entry-high lows highs x k h m)))

-- ---- the cuts that are added
pub all-fresh : {C : Type 0} (P : C → Type 0) (id_of : C → ItemId) (old new : List C) → All P new
    → All P (fresh_in id_of old new)
all-fresh P id_of old [] h = All-nil P
all-fresh {C} P id_of old (y ∷ new) h =
    by (has_id id_of (id_of y) old) (all-fresh P id_of old new (All-tail P y new h))
  where
    by : (b : Bool) → All P (fresh_in id_of old new)
        → All P (cond b (fresh_in id_of old new) (y ∷ fresh_in id_of old new))
    by true i = i
    by false i = All-cons P y (fresh_in id_of old new) (All-head P y new h) i

or_parts : (a b : Bool) → (a || b) ≡ false → (a ≡ false) × (b ≡ false)
or_parts true b e = absurd cc
or_parts false b e = (refl, e)

-- an id that the new list lacks
lacks-fresh : {C : Type 0} (id_of : C → ItemId) (id : ItemId) (old new : List C)
    → has_id id_of id new ≡ false → has_id id_of id (fresh_in id_of old new) ≡ false
lacks-fresh id_of id old [] h = refl
lacks-fresh {C} id_of id old (y ∷ new) h =
    let p = or_parts (same_id (id_of y) id) (has_id id_of id new) h in
    by (has_id id_of (id_of y) old) p.0 (lacks-fresh id_of id old new p.1)
  where
    by : (b : Bool) → same_id (id_of y) id ≡ false → has_id id_of id (fresh_in id_of old new)
        ≡ false → has_id id_of id (cond b (fresh_in id_of old new) (y ∷ fresh_in id_of old new))
        ≡ false
    by true p i = i
    by false p i = ap (λ (t : Bool). t || has_id id_of id (fresh_in id_of old new)) p ∙ i

fresh-apart : {C : Type 0} (id_of : C → ItemId) (old new : List C) → Apart id_of new
    → Apart id_of (fresh_in id_of old new)
fresh-apart id_of old [] h = tt
fresh-apart {C} id_of old (y ∷ new) h =
    by (has_id id_of (id_of y) old) (fresh-apart id_of old new h.1)
  where
    by : (b : Bool) → Apart id_of (fresh_in id_of old new)
        → Apart id_of (cond b (fresh_in id_of old new) (y ∷ fresh_in id_of old new))
    by true i = i
    by false i = (lacks-fresh id_of (id_of y) old new h.0, i)

-- an id of the old list is none of the fresh ones
old-lacks : {C : Type 0} (id_of : C → ItemId) (id : ItemId) (old new : List C)
    → has_id id_of id old ≡ true → has_id id_of id (fresh_in id_of old new) ≡ false
old-lacks id_of id old [] h = refl
old-lacks {C} id_of id old (y ∷ new) h =
    by (has_id id_of (id_of y) old) refl (old-lacks id_of id old new h)
  where
    other : (b : Bool) → same_id (id_of y) id ≡ b → has_id id_of (id_of y) old ≡ false
        → same_id (id_of y) id ≡ false
    other true e n =
        absurd (false≢true
        (sym n ∙ (ap (λ (z : ItemId). has_id id_of z old) (same_id-is (id_of y) id e) ∙ h)))
    other false e n = e

    by : (b : Bool) → has_id id_of (id_of y) old ≡ b → has_id id_of id (fresh_in id_of old new)
        ≡ false → has_id id_of id (cond b (fresh_in id_of old new) (y ∷ fresh_in id_of old new))
        ≡ false
    by true e i = i
    by false e i = let s = other (same_id (id_of y) id) refl e in ap
        (λ (t : Bool). t || has_id id_of id (fresh_in id_of old new)) s ∙ i

own-id : {C : Type 0} (id_of : C → ItemId) (xs : List C)
    → All (λ x. has_id id_of (id_of x) xs ≡ true) xs
own-id {C} id_of xs k d l = has_id_at id_of (id_of (slice_index_or xs k d)) xs k
    (l, λ e. ap id_of (get_or_default xs k e d l))

apart-behind : {C : Type 0} (id_of : C → ItemId) (xs fresh : List C) → Apart id_of xs
    → All (λ x. has_id id_of (id_of x) fresh ≡ false) xs → Apart id_of fresh
    → Apart id_of (xs ++ fresh)
apart-behind id_of [] fresh a h b = b
apart-behind {C} id_of (x ∷ xs) fresh a h b =
    let p = All-head (λ (y : C). has_id id_of (id_of y) fresh ≡ false) x xs h in (
      has_id-append id_of (id_of x) xs fresh
          ∙ (ap (λ (t : Bool). t || has_id id_of (id_of x) fresh) a.0 ∙ p),
      apart-behind id_of xs fresh a.1
          (All-tail (λ (y : C). has_id id_of (id_of y) fresh ≡ false) x xs h) b,
    )

pub fresh-differ : {C : Type 0} (id_of : C → ItemId) (old new : List C)
    → AllPairs (λ a b. id_of a ≢ id_of b) old → AllPairs (λ a b. id_of a ≢ id_of b) new
    → AllPairs (λ a b. id_of a ≢ id_of b) (old ++ fresh_in id_of old new)
fresh-differ {C} id_of old new h k =
    pairs_from_apart id_of (old ++ fresh_in id_of old new)
    (apart-behind id_of old (fresh_in id_of old new) (Apart-from_pairs id_of old h)
    (λ i d l. old-lacks id_of (id_of (slice_index_or old i d)) old new (own-id id_of old i d l))
    (fresh-apart id_of old new (Apart-from_pairs id_of new k)))
