-- What an answer means in a legal history.
use Rattle.std.proofs.Common.{◌≡◌, ℕ, zero, suc, ◌<◌, List, [], ◌∷◌, ◌++◌, length, refl, ap, sym}
use Rattle.std.proofs.Common.{◌∙◌, subst, arith, Bool, true, Some, None, Option, ◌⊎◌, inl, inr}
use Rattle.std.proofs.Common.{false}
use Rattle.std.specs.Prelude.{filter, map, fold, ℤ, pos, ◌-ℤ◌, ◌≤ℤ◌, int_lt}
use Rattle.std.specs.Int.{int_min}
use Rattle.std.proofs.lemmas.Int.{ints, clamps}
use Rattle.std.proofs.lemmas.Bool.{cases_Bool, true≢false, cases_lt}
use Rattle.bl_problem.specs.Program.{Program}
use Rattle.bl_problem.specs.Points.{IsFeasible, value_of}
use Rattle.bl_journal.specs.declared.entry.Entry.{Entry}
use Rattle.bl_journal.specs.declared.entry.Entry.TheVariants.{Take, Put, Back, Encode, Free}
use Rattle.bl_journal.specs.declared.settings.Settings.{Settings}
use Rattle.bl_journal.specs.Births.{nodes_of, node_at}
use Rattle.bl_journal.specs.States.{Found, best_of, better, value_less, is_below, is_live}
use Rattle.bl_journal.specs.Replies.{ids_below, ids_of}
use Rattle.bl_journal.specs.Legality.{IsAllowed, IsLegalPast}
use Rattle.bl_journal.specs.Results.{IsTrueFor, IsGood, BestGood, within, optimal, live_ids}
use Rattle.bl_journal.specs.Results.{answer_for, answer_of}
use Rattle.bl_journal.proofs.Living.{each_past}
use Rattle.bl_journal.proofs.Leaves.{by_test}
use Rattle.bl_journal.proofs.Coverage.{lies_somewhere}

pub best_good : (p : Program) (s : Settings) (past : List Entry) → IsLegalPast p s past
    → BestGood p (best_of p past)
best_good p s = each_past p s (λ past. BestGood p (best_of p past)) tt step
  where
    with_best : (o : Option Found) (f : Found) → BestGood p o → IsGood p f → BestGood p (better o f)
    with_best None f g new = new
    with_best (Some b) f g new = by_test (BestGood p) (int_lt f.value b.value) (Some f) (Some b)
        (λ _. new) (λ _. g)

    step : (past : List Entry) (e : Entry) → IsLegalPast p s past → IsAllowed p s past e
        → BestGood p (best_of p past) → BestGood p (best_of p (e ∷ past))
    step past (Put seat k (Some x) low next) l a ih =
        with_best (best_of p past) (record { value = value_of p x; point = x }) ih
        (record { feasible = a.sound.found_ok.0; value = refl })
    step past (Put seat k None low next) l a ih = ih
    step past (Take seat k) l a ih = ih
    step past (Back seat k) l a ih = ih
    step past (Encode seat k form) l a ih = ih
    step past (Free seat ids) l a ih = ih

abbrev pub Has : ℕ → List ℕ → Type 0
Has i [] = ⊥
Has i (k ∷ ids) = (k ≡ i) ⊎ Has i ids

pub Has-append_left : (i : ℕ) (xs ys : List ℕ) → Has i xs → Has i (xs ++ ys)
Has-append_left i [] ys h = absurd h
Has-append_left i (k ∷ xs) ys (inl e) = inl e
Has-append_left i (k ∷ xs) ys (inr h) = inr (Has-append_left i xs ys h)

pub Has-append_right : (i : ℕ) (xs ys : List ℕ) → Has i ys → Has i (xs ++ ys)
Has-append_right i [] ys h = h
Has-append_right i (k ∷ xs) ys h = inr (Has-append_right i xs ys h)

pub Has-ids : (n i : ℕ) → i < n → Has i (ids_below n)
Has-ids zero i h = absurd (omega arith)
Has-ids (suc n) i h =
    elim (cases_lt i n) [
      | inl k ↦ Has-append_left i (ids_below n) (n ∷ []) (Has-ids n i k)
      | inr k ↦ let e : n ≡ i = omega (arith, h, k) in Has-append_right i (ids_below n) (n ∷ [])
          (inl e)
    ]

pub Has-filter : (test : ℕ → Bool) (i : ℕ) (xs : List ℕ) → Has i xs → test i ≡ true
    → Has i (filter test xs)
Has-filter test i [] h t = absurd h
Has-filter test i (k ∷ xs) (inl e) t =
    by_test (λ ys. Has i ys) (test k) (k ∷ filter test xs) (filter test xs) (λ _. inl e)
    (λ f. absurd (true≢false (sym t ∙ (ap test (sym e) ∙ f))))
Has-filter test i (k ∷ xs) (inr h) t =
    by_test (λ ys. Has i ys) (test k) (k ∷ filter test xs) (filter test xs)
    (λ _. inr (Has-filter test i xs h t)) (λ _. Has-filter test i xs h t)

-- the least of these is at most each
pub fold_min-start : (a : ℤ) (xs : List ℤ) → fold int_min a xs ≤ℤ a
fold_min-start a [] = omega (arith, ints)
fold_min-start a (x ∷ xs) = let h : fold int_min (int_min a x) xs ≤ℤ int_min a x =
    fold_min-start (int_min a x) xs in omega (arith, ints, clamps, h)

pub fold_min-each : (f : ℕ → ℤ) (a : ℤ) (i : ℕ) (ids : List ℕ) → Has i ids
    → fold int_min a (map f ids) ≤ℤ f i
fold_min-each f a i [] h = absurd h
fold_min-each f a i (k ∷ ids) (inl e) =
    let h : fold int_min (int_min a (f k)) (map f ids) ≤ℤ int_min a (f k) =
    fold_min-start (int_min a (f k)) (map f ids) in
    let g : fold int_min (int_min a (f k)) (map f ids) ≤ℤ f k = omega (arith, ints, clamps, h) in
    subst (λ (m : ℕ). fold int_min (int_min a (f k)) (map f ids) ≤ℤ f m) e g
fold_min-each f a i (k ∷ ids) (inr h) = fold_min-each f (int_min a (f k)) i ids h

least_at_most : (f : ℕ → ℤ) (k i : ℕ) (ids : List ℕ) (v : ℤ) → Has i (k ∷ ids) → f i ≤ℤ v
    → fold int_min (f k) (map f ids) ≤ℤ v
least_at_most f k i ids v (inl e) low =
    let s : fold int_min (f k) (map f ids) ≤ℤ f k = fold_min-start (f k) (map f ids) in
    let low' : f k ≤ℤ v = subst (λ (m : ℕ). f m ≤ℤ v) (sym e) low in
    omega (arith, ints, s, low')
least_at_most f k i ids v (inr h) low = let s : fold int_min (f k) (map f ids) ≤ℤ f i =
    fold_min-each f (f k) i ids h in omega (arith, ints, s, low)

-- each point below the cutoff has an id among these, whose low number is at most its value
abbrev Covers : Program → Option ℤ → (ℕ → ℤ) → List ℕ → Type 0
Covers p cutoff f ids = (x : List ℤ) → IsFeasible p x → is_below (value_of p x) cutoff ≡ true
    → (i : ℕ) × Has i ids × (f i ≤ℤ value_of p x)

means_from : (p : Program) (gap : ℤ) (best : Option Found) (f : ℕ → ℤ) (ids : List ℕ)
    → pos 0 ≤ℤ gap → BestGood p best → Covers p (value_less gap best) f ids
    → IsTrueFor p (answer_for gap best (map f ids))
means_from p gap None f [] some good covers = λ x h. (covers x h refl).1
means_from p gap (Some b) f [] some good covers =
    by_test (IsTrueFor p) (int_lt (pos 0) gap) (within b (b.value -ℤ gap)) (optimal b)
    (λ _. (good.feasible, good.value, not_below))
    (λ none. (good.feasible, good.value, λ x h. no_gap x none (not_below x h)))
  where
    no_gap : (x : List ℤ) → int_lt (pos 0) gap ≡ false → (b.value -ℤ gap) ≤ℤ value_of p x
        → b.value ≤ℤ value_of p x
    no_gap x none h = grind (arith, ints, none, some, h)

    not_below : (x : List ℤ) → IsFeasible p x → (b.value -ℤ gap) ≤ℤ value_of p x
    not_below x h =
        elim (cases_Bool (int_lt (value_of p x) (b.value -ℤ gap))) [
          | inl t ↦ absurd ((covers x h t).1)
          | inr t ↦ grind (arith, ints, t)
        ]
means_from p gap None f (k ∷ ids) some good covers =
    (tt, λ x h. let c = covers x h refl in least_at_most f k c.0 ids (value_of p x) c.1 c.2)
means_from p gap (Some b) f (k ∷ ids) some good covers = (good, λ x h. all x h)
  where
    all : (x : List ℤ) → IsFeasible p x
        → int_min (b.value -ℤ gap) (fold int_min (f k) (map f ids)) ≤ℤ value_of p x
    all x h =
        elim (cases_Bool (int_lt (value_of p x) (b.value -ℤ gap))) [
          | inl t ↦ let c = covers x h t in
              let s : fold int_min (f k) (map f ids) ≤ℤ value_of p x =
              least_at_most f k c.0 ids (value_of p x) c.1 c.2 in omega (arith, ints, clamps, s)
          | inr t ↦ let s : (b.value -ℤ gap) ≤ℤ value_of p x =
              grind (arith, ints, t) in omega (arith, ints, clamps, s)
        ]

pub answer_means : (p : Program) (s : Settings) (past : List Entry) → pos 0 ≤ℤ s.gap
    → IsLegalPast p s past → IsTrueFor p (answer_of p s past)
unfolding answer_of
answer_means p s past g l =
    means_from p s.gap (best_of p past) (λ id. (node_at p past id).low) (live_ids p s past) g
    (best_good p s past l)
    (λ x f b. let c = lies_somewhere p s past g l x f b in (
      c.0,
      Has-filter (is_live p s past) c.0 (ids_of p past)
          (Has-ids (length (nodes_of p past)) c.0 c.1.held.born) c.1.held.live,
      c.1.low,
    ))
