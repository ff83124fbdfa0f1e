-- The best value only falls, so the cutoff of a node that is out is at least the best value less
-- the gap.
use Rattle.std.proofs.Common.{◌≡◌, ℕ, List, ◌∷◌, refl, sym, ◌∙◌, arith, true, Some, None, Option}
use Rattle.std.proofs.lemmas.Bool.{eq-eqb, true≢false}
use Rattle.std.specs.Prelude.{IfSome, ◌==◌, ℤ, pos, ◌-ℤ◌, ◌≤ℤ◌, ◌<ℤ◌, int_lt}
use Rattle.std.specs.Int.{int_min}
use Rattle.std.proofs.lemmas.Int.{ints, clamps}
use Rattle.bl_problem.specs.Program.{Program}
use Rattle.bl_problem.specs.Points.{value_of}
use Rattle.bl_journal.specs.declared.entry.Entry.{Entry}
use Rattle.bl_journal.specs.declared.entry.Entry.TheVariants.{Take, Put, Back, Encode, Free}
use Rattle.bl_journal.specs.Soundness.{cutoff_with}
use Rattle.bl_journal.specs.declared.settings.Settings.{Settings}
use Rattle.bl_journal.specs.Legality.{IsLegalPast}
use Rattle.bl_journal.specs.States.{state_of, Found, best_with, best_after, best_of, value_less}
use Rattle.bl_journal.specs.States.{cutoff_for, cutoff_of, is_below}
use Rattle.bl_journal.specs.declared.state.State.TheVariants.{Out as out}
use Rattle.bl_journal.proofs.Leaves.{by_test}
use Rattle.bl_journal.proofs.Induction.{each_out}

-- a value below the new best less the gap is below the old one less the gap
pub below_before : (p : Program) (gap : ℤ) (best : Option Found) (e : Entry) (v : ℤ)
    → is_below v (value_less gap (best_after p best e)) ≡ true → is_below v (value_less gap best)
    ≡ true
below_before p gap best (Take seat i) v h = h
below_before p gap best (Back seat i) v h = h
below_before p gap best (Encode seat i form) v h = h
below_before p gap best (Free seat ids) v h = h
below_before p gap best (Put seat i None low next) v h = h
below_before p gap None (Put seat i (Some x) low next) v h = refl
below_before p gap (Some b) (Put seat i (Some x) low next) v h =
    let f : Found = record { value = value_of p x; point = x } in
    let P : Option Found → Type 0 =
    λ o. is_below v (value_less gap o) ≡ true → int_lt v (b.value -ℤ gap) ≡ true in
    by_test P (int_lt f.value b.value) (Some f) (Some b) (λ t k. grind (arith, ints, t, k))
    (λ _ k. k) h

-- the best value less the gap is at most the cutoff
abbrev pub BestWithin : ℤ → Option Found → Option ℤ → Type 0
BestWithin gap best None = Unit {0}
BestWithin gap None (Some c) = ⊥
BestWithin gap (Some b) (Some c) = (b.value -ℤ gap) ≤ℤ c

pub BestWithin-self : (gap : ℤ) (best : Option Found) → BestWithin gap best (value_less gap best)
BestWithin-self gap None = tt
BestWithin-self gap (Some b) = omega (arith, ints)

pub BestWithin-falls : (p : Program) (gap : ℤ) (best : Option Found) (c : Option ℤ) (e : Entry)
    → BestWithin gap best c → BestWithin gap (best_after p best e) c
BestWithin-falls p gap best None e w = tt
BestWithin-falls p gap None (Some c) e w = absurd w
BestWithin-falls p gap (Some b) (Some c) (Take seat i) w = w
BestWithin-falls p gap (Some b) (Some c) (Back seat i) w = w
BestWithin-falls p gap (Some b) (Some c) (Encode seat i form) w = w
BestWithin-falls p gap (Some b) (Some c) (Free seat ids) w = w
BestWithin-falls p gap (Some b) (Some c) (Put seat i None low next) w = w
BestWithin-falls p gap (Some b) (Some c) (Put seat i (Some x) low next) w =
    let f : Found = record { value = value_of p x; point = x } in
    let P : Option Found → Type 0 = λ o. BestWithin gap o (Some c) in
    by_test P (int_lt f.value b.value) (Some f) (Some b) (λ t. grind (arith, ints, t, w)) (λ _. w)

-- what is below the best value less the gap after a put is below the put's own cutoff
pub below_cutoff : (p : Program) (gap : ℤ) (best : Option Found) (c : Option ℤ)
    (found : Option (List ℤ)) (v : ℤ) → pos 0 ≤ℤ gap → BestWithin gap best c
    → is_below v (value_less gap (best_with p best found)) ≡ true
    → IfSome (cutoff_with p c found) (λ d. v <ℤ d)
below_cutoff p gap best None None v g w h = tt
below_cutoff p gap None (Some c) found v g w h = absurd w
below_cutoff p gap (Some b) (Some c) None v g w h = grind (arith, ints, w, h)
below_cutoff p gap None None (Some x) v g w h = grind (arith, ints, g, h)
below_cutoff p gap (Some b) None (Some x) v g w h =
    let f : Found = record { value = value_of p x; point = x } in
    let P : Option Found → Type 0 = λ o. is_below v (value_less gap o) ≡ true → v <ℤ value_of p x in
    by_test P (int_lt f.value b.value) (Some f) (Some b) (λ t k. grind (arith, ints, g, k))
    (λ t k. grind (arith, ints, g, t, k)) h
below_cutoff p gap (Some b) (Some c) (Some x) v g w h =
    let f : Found = record { value = value_of p x; point = x } in
    let P : Option Found → Type 0 =
    λ o. is_below v (value_less gap o) ≡ true → v <ℤ int_min c (value_of p x) in
    by_test P (int_lt f.value b.value) (Some f) (Some b) (λ t k. below_min v c f.value
    (grind (arith, ints, t, k, w)) (grind (arith, ints, g, k)))
    (λ t k. below_min v c f.value (grind (arith, ints, k, w)) (grind (arith, ints, g, t, k))) h
  where
    below_min : (v c d : ℤ) → v <ℤ c → v <ℤ d → v <ℤ int_min c d
    below_min v c d m n = omega (arith, ints, clamps, m, n)

cutoff_kept : (p : Program) (s : Settings) (past : List Entry) (e : Entry) (id : ℕ)
    → BestWithin s.gap (best_of p past) (cutoff_of p s past id)
    → BestWithin s.gap (best_of p (e ∷ past)) (cutoff_of p s (e ∷ past) id)
cutoff_kept p s past (Take t i) id w = by_test (BestWithin s.gap (best_of p past)) (i == id)
    (cutoff_for p s past) (cutoff_of p s past id) (λ _. BestWithin-self s.gap (best_of p past))
    (λ _. w)
cutoff_kept p s past (Put t i found low next) id w =
    BestWithin-falls p s.gap (best_of p past) (cutoff_of p s past id) (Put t i found low next) w
cutoff_kept p s past (Back t i) id w = w
cutoff_kept p s past (Encode t i form) id w = w
cutoff_kept p s past (Free t ids) id w = w

-- the best value less the gap is at most the cutoff of a node that is out
pub cutoff_holds : (p : Program) (s : Settings) (past : List Entry) → IsLegalPast p s past
    → (id seat : ℕ) → state_of past id ≡ out seat
    → BestWithin s.gap (best_of p past) (cutoff_of p s past id)
cutoff_holds p s =
    each_out p s (λ h k. BestWithin s.gap (best_of p h) (cutoff_of p s h k))
    (λ h seat k given. by_test (BestWithin s.gap (best_of p h)) (k == k) (cutoff_for p s h)
    (cutoff_of p s h k) (λ _. BestWithin-self s.gap (best_of p h))
    (λ e. absurd (true≢false (sym (eq-eqb k k refl) ∙ e))))
    (λ h e k born w. cutoff_kept p s h e k w)
