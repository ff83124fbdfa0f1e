-- The canonical difference fits the parent, and its lists are no longer than those of the two
-- descriptions.
use Rattle.std.proofs.Common.{◌≡◌, ℕ, zero, suc, ◌+◌, ◌<◌, ◌≤◌, List, [], ◌∷◌, length, refl, ap}
use Rattle.std.proofs.Common.{arith, Bool, true, false, cond}
use Rattle.std.specs.Prelude.{All, ◌^◌}
use Rattle.std.specs.Ordering.{int_eq}
use Rattle.bl_mods.specs.declared.mods.Mod.{Mod}
use Rattle.bl_mods.specs.declared.mods.ItemId.{ItemId}
use Rattle.bl_mods.specs.Mods.{differences, differences_from, gone_from, fresh_in, has_id}
use Rattle.bl_mods.specs.Mods.{relisted, list_differences, IsPartThenFresh}
use Rattle.bl_mods.proofs.Diffing.{all_weaker, unlike, length_differences}
use Rattle.bl_mods.proofs.Differences.{relisted-differences}
use Rattle.bl_desc.specs.declared.desc.Desc.{Desc}
use Rattle.bl_desc.specs.Changes.{IsWhole, Fits, AreBelow, difference, same_status}
use Rattle.bl_desc.specs.Changes.{cut_status_after}
use Rattle.bl_desc.specs.Weights.{ChangeHasShortLists}
use Rattle.bl_desc.proofs.Canonical.{length-cut_status_after}

all_cons : {X : Type 0} (P : X → Type 0) (x : X) (xs : List X) → P x → All P xs → All P (x ∷ xs)
all_cons P x xs p a zero d h = p
all_cons P x xs p a (suc k) d h = a k d (omega (arith, h))

below_from : {T : Type 0} (same : T → T → Bool) (at : ℕ) (old new : List T)
    → AreBelow (at + length old) (differences_from same at old new)
below_from same at [] new = λ k d h. absurd (omega (arith, h))
below_from same at (x ∷ old) [] = λ k d h. absurd (omega (arith, h))
below_from {T} same at (x ∷ old) (y ∷ new) =
    by_case (same x y) (all_weaker (λ (m : Mod T). m.place < (at + 1) + length old)
    (λ (m : Mod T). m.place < at + suc (length old)) (differences_from same (at + 1) old new)
    (λ m b. omega (arith, b)) (below_from same (at + 1) old new))
  where
    by_case : (b : Bool) → AreBelow (at + suc (length old)) (differences_from same (at + 1) old new)
        → AreBelow (at + suc (length old)) (cond b (differences_from same (at + 1) old new)
        ((record { place = at; entry = y }) ∷ differences_from same (at + 1) old new))
    by_case true a = a
    by_case false a = all_cons (λ (m : Mod T). m.place < at + suc (length old))
        (record { place = at; entry = y }) (differences_from same (at + 1) old new) (omega arith) a

below_differences : {T : Type 0} (same : T → T → Bool) (old new : List T) (n : ℕ) → length old ≡ n
    → AreBelow n (differences same old new)
below_differences {T} same old new n e =
    all_weaker (λ (m : Mod T). m.place < 0 + length old) (λ (m : Mod T). m.place < n)
    (differences same old new) (λ m b. omega (arith, b, e)) (below_from same 0 old new)

gone_below_from : {C : Type 0} (id_of : C → ItemId) (at : ℕ) (old new : List C)
    → All (λ p. p < at + length old) (gone_from id_of at old new)
gone_below_from id_of at [] new = λ k d h. absurd (omega (arith, h))
gone_below_from {C} id_of at (x ∷ old) new =
    by_case (has_id id_of (id_of x) new) (all_weaker (λ (p : ℕ). p < (at + 1) + length old)
    (λ (p : ℕ). p < at + suc (length old)) (gone_from id_of (at + 1) old new)
    (λ p b. omega (arith, b)) (gone_below_from id_of (at + 1) old new))
  where
    by_case : (b : Bool) → All (λ p. p < at + suc (length old)) (gone_from id_of (at + 1) old new)
        → All (λ p. p < at + suc (length old))
        (cond b (gone_from id_of (at + 1) old new) (at ∷ gone_from id_of (at + 1) old new))
    by_case true a = a
    by_case false a = all_cons (λ (p : ℕ). p < at + suc (length old)) at
        (gone_from id_of (at + 1) old new) (omega arith) a

gone_below : {C : Type 0} (id_of : C → ItemId) (old new : List C)
    → All (λ p. p < length old) (gone_from id_of 0 old new)
gone_below id_of old new =
    all_weaker (λ (p : ℕ). p < 0 + length old) (λ (p : ℕ). p < length old)
    (gone_from id_of 0 old new) (λ p b. omega (arith, b)) (gone_below_from id_of 0 old new)

unlike_most : {T : Type 0} (same : T → T → Bool) (old new : List T) → unlike same old new
    ≤ length old
unlike_most same [] new = omega arith
unlike_most same (x ∷ old) [] = omega arith
unlike_most {T} same (x ∷ old) (y ∷ new) = by_case (same x y) (unlike_most same old new)
  where
    by_case : (b : Bool) → unlike same old new ≤ length old
        → cond b (unlike same old new) (suc (unlike same old new)) ≤ suc (length old)
    by_case true h = omega (arith, h)
    by_case false h = omega (arith, h)

differences_most : {T : Type 0} (same : T → T → Bool) (old new : List T)
    → length (differences same old new) ≤ length old
differences_most same old new =
    let e : length (differences same old new) ≡ unlike same old new =
    length_differences same 0 old new in
    let h = unlike_most same old new in
    omega (arith, e, h)

gone_most : {C : Type 0} (id_of : C → ItemId) (at : ℕ) (old new : List C)
    → length (gone_from id_of at old new) ≤ length old
gone_most id_of at [] new = omega arith
gone_most {C} id_of at (x ∷ old) new =
    by_case (has_id id_of (id_of x) new) (gone_most id_of (at + 1) old new)
  where
    by_case : (b : Bool) → length (gone_from id_of (at + 1) old new) ≤ length old
        → length (cond b (gone_from id_of (at + 1) old new)
        (at ∷ gone_from id_of (at + 1) old new)) ≤ suc (length old)
    by_case true h = omega (arith, h)
    by_case false h = omega (arith, h)

fresh_most : {C : Type 0} (id_of : C → ItemId) (old new : List C)
    → length (fresh_in id_of old new) ≤ length new
fresh_most id_of old [] = omega arith
fresh_most {C} id_of old (y ∷ new) = by_case (has_id id_of (id_of y) old) (fresh_most id_of old new)
  where
    by_case : (b : Bool) → length (fresh_in id_of old new) ≤ length new
        → length (cond b (fresh_in id_of old new) (y ∷ fresh_in id_of old new)) ≤ suc (length new)
    by_case true h = omega (arith, h)
    by_case false h = omega (arith, h)

pub difference_fits : {C : Type 0} (id_of : C → ItemId) (p c : Desc C) → IsWhole p
    → Fits (difference id_of p c) p
difference_fits id_of p c w =
    record {
      lows = below_differences int_eq p.lows c.lows (length p.lows) refl;
      highs = below_differences int_eq p.highs c.highs (length p.highs) refl;
      dropped = gone_below id_of p.cuts c.cuts;
      columns = below_differences same_status p.column_status c.column_status
          (length p.column_status) refl;
      rows = below_differences same_status p.row_status c.row_status (length p.row_status) refl;
      fresh = below_differences same_status (cut_status_after
          (list_differences id_of p.cuts c.cuts) p.cut_status) c.cut_status
          (length (relisted (list_differences id_of p.cuts c.cuts) p.cuts))
          (length-cut_status_after (list_differences id_of p.cuts c.cuts) p.cuts p.cut_status
          w.cuts);
    }

pub difference_is_short : {C : Type 0} (id_of : C → ItemId) (p c : Desc C) → IsWhole p
    → IsPartThenFresh id_of p.cuts c.cuts
    → length p.lows < 2 ^ 32 → length p.row_status < 2 ^ 32 → length p.cuts < 2 ^ 32
    → length c.cuts < 2 ^ 32 → ChangeHasShortLists (difference id_of p c)
difference_is_short id_of p c w part lows rows parent child =
    let d1 = differences_most int_eq p.lows c.lows in
    let d2 = differences_most int_eq p.highs c.highs in
    let d3 = gone_most id_of 0 p.cuts c.cuts in
    let d4 = fresh_most id_of p.cuts c.cuts in
    let d5 = differences_most same_status p.column_status c.column_status in
    let d6 = differences_most same_status p.row_status c.row_status in
    let d7 = differences_most same_status
    (cut_status_after (list_differences id_of p.cuts c.cuts) p.cut_status) c.cut_status in
    let len = length-cut_status_after (list_differences id_of p.cuts c.cuts) p.cuts p.cut_status
    w.cuts in
    let cuts = ap length (relisted-differences id_of p.cuts c.cuts part) in
    let highs = w.highs in
    let columns = w.columns in
    record {
      lows = omega (arith, d1, lows);
      highs = omega (arith, d2, highs, lows);
      dropped = omega (arith, d3, parent);
      added = omega (arith, d4, child);
      columns = omega (arith, d5, columns, lows);
      rows = omega (arith, d6, rows);
      fresh = omega (arith, d7, len, cuts, child);
    }
