-- Induction over legal histories, whose last entry comes first, and facts on their nodes.
use Rattle.std.proofs.Common.{◌≡◌, ℕ, zero, suc, ◌<◌, List, [], ◌∷◌, ◌++◌, length, refl, sym}
use Rattle.std.proofs.Common.{append-nil, subst, arith, Bool, true, false, cond, Some, None}
use Rattle.std.proofs.Common.{Option}
use Rattle.std.specs.Prelude.{filter, find}
use Rattle.std.proofs.lemmas.Bool.{and_parts}
use Rattle.bl_problem.specs.Program.{Program}
use Rattle.bl_journal.specs.declared.entry.Entry.{Entry}
use Rattle.bl_journal.specs.declared.settings.Settings.{Settings}
use Rattle.bl_journal.specs.Births.{nodes_of}
use Rattle.bl_journal.specs.States.{state_of, is_open}
use Rattle.bl_journal.specs.Legality.{IsAllowed, IsLegalPast}
use Rattle.bl_journal.specs.Replies.{take_reply, reply_for, next_of, first_below, preferred}
use Rattle.bl_journal.specs.Replies.{ids_below, waits_live, is_waiting, gives}

-- P holds of each element
abbrev pub Each : {X : Type 0} → (X → Type 0) → List X → Type 0
Each P [] = Unit {0}
Each P (x ∷ xs) = P x × Each P xs

pub Each-append : {X : Type 0} (P : X → Type 0) (xs ys : List X) → Each P xs → Each P ys
    → Each P (xs ++ ys)
Each-append P [] ys a b = b
Each-append P (x ∷ xs) ys a b = (a.0, Each-append P xs ys a.1 b)

pub Each-weaken : {X : Type 0} (P Q : X → Type 0) → ((x : X) → P x → Q x) → (xs : List X)
    → Each P xs → Each Q xs
Each-weaken P Q f [] a = tt
Each-weaken P Q f (x ∷ xs) a = (f x a.0, Each-weaken P Q f xs a.1)

pub Each-ids : (n : ℕ) → Each (λ i. i < n) (ids_below n)
Each-ids zero = tt
Each-ids (suc n) =
    let P : ℕ → Type 0 = λ i. i < n in
    let Q : ℕ → Type 0 = λ i. i < suc n in
    let here : n < suc n = omega arith in
    Each-append Q (ids_below n) (n ∷ [])
    (Each-weaken P Q (λ i h. omega (arith, h)) (ids_below n) (Each-ids n)) (here, tt)

pub Each-filter : {X : Type 0} (P : X → Type 0) (test : X → Bool) (xs : List X) → Each P xs
    → Each (λ x. P x × (test x ≡ true)) (filter test xs)
Each-filter P test [] a = tt
Each-filter {X} P test (x ∷ xs) a =
    let Q : X → Type 0 = λ y. P y × (test y ≡ true) in
    let go : (b : Bool) → test x ≡ b → Each Q (cond b (x ∷ filter test xs) (filter test xs)) =
    λ b e. (elim b as (λ v. test x ≡ v → Each Q (cond v (x ∷ filter test xs) (filter test xs))) [
      | true ↦ λ e'. ((a.0, e'), Each-filter P test xs a.1)
      | false ↦
          λ _. Each-filter P test xs a.1
    ]) e in
    go (test x) refl

-- what holds of a past, and is kept by each allowed entry with the property Q, holds after such
-- entries
pub each_from : (p : Program) (s : Settings) (Q : Entry → Type 0) (P : List Entry → Type 0)
    (past : List Entry) → P past
    → ((h : List Entry) (e : Entry) → IsLegalPast p s h → IsAllowed p s h e → Q e → P h → P (e ∷ h))
    → (more : List Entry) → Each Q more → IsLegalPast p s (more ++ past) → P (more ++ past)
each_from p s Q P past first kept [] q l = first
each_from p s Q P past first kept (e ∷ more) q l =
    kept (more ++ past) e l.1 l.0 q.0 (each_from p s Q P past first kept more q.1 l.1)

pub Each-any : {X : Type 0} (xs : List X) → Each (λ _. Unit {0}) xs
Each-any [] = tt
Each-any (x ∷ xs) = (tt, Each-any xs)

-- what holds at first, and is kept by each allowed entry, holds of each legal past
pub each_past : (p : Program) (s : Settings) (P : List Entry → Type 0) → P []
    → ((h : List Entry) (e : Entry) → IsLegalPast p s h → IsAllowed p s h e → P h → P (e ∷ h))
    → (past : List Entry) → IsLegalPast p s past → P past
each_past p s P first kept past l =
    subst P (append-nil past)
    (each_from p s (λ _. Unit {0}) P [] first (λ h e lh a _. kept h e lh a) past (Each-any past)
    (subst (IsLegalPast p s) (sym (append-nil past)) l))

first_step : (before : ℕ → ℕ → Bool) (fit : ℕ → Bool) (n i : ℕ) (o : Option ℕ)
    → (o ≡ Some i → (i < n) × (fit i ≡ true)) → (b : Bool) → fit n ≡ b
    → cond b (preferred before o n) o ≡ Some i → (i < suc n) × (fit i ≡ true)
first_step before fit n i o ih false t h = let k = ih h in let b : i < n =
    k.0 in (omega (arith, b), k.1)
first_step before fit n i None ih true t h = let f : n ≡ i =
    cc in (omega (arith, f), subst (λ (m : ℕ). fit m ≡ true) f t)
first_step before fit n i (Some k) ih true t h = at_choice (before n k) h
  where
    at_choice : (b : Bool) → cond b (Some n) (Some k) ≡ Some i → (i < suc n) × (fit i ≡ true)
    at_choice true h' = let f : n ≡ i =
        cc in (omega (arith, f), subst (λ (m : ℕ). fit m ≡ true) f t)
    at_choice false h' = let r = ih h' in let b : i < n = r.0 in (omega (arith, b), r.1)

-- what is first below n is below n and fit
pub first_below_holds : (before : ℕ → ℕ → Bool) (fit : ℕ → Bool) (n i : ℕ)
    → first_below before fit n ≡ Some i → (i < n) × (fit i ≡ true)
first_below_holds before fit zero i e = cc
first_below_holds before fit (suc n) i e =
    first_step before fit n i (first_below before fit n) (λ h. first_below_holds before fit n i h)
    (fit n) refl e

pub find_holds : (test : ℕ → Bool) (P : ℕ → Type 0) (ids : List ℕ) → Each P ids → (i : ℕ)
    → find test ids ≡ Some i → P i × (test i ≡ true)
find_holds test P [] a i e = cc
find_holds test P (k ∷ ids) a i e =
    let go : (b : Bool) → test k ≡ b → cond b (Some k) (find test ids) ≡ Some i → P i
    × (test i ≡ true) =
    λ b. elim b as (λ v. test k ≡ v → cond v (Some k) (find test ids) ≡ Some i → P i
    × (test i ≡ true)) [
      | true ↦ λ t h. let f : k ≡ i = cc in subst (λ (n : ℕ). P n × (test n ≡ true)) f (a.0, t)
      | false ↦ λ t h. find_holds test P ids a.1 i h
    ] in
    go (test k) refl e

reply_node : (o : Option ℕ) (left someone : Bool) (i : ℕ) → reply_for o left someone ≡ gives i → o
    ≡ Some i
reply_node None l true i e = cc
reply_node None l false i e = cc
reply_node (Some j) true a i e = cc
reply_node (Some j) false a i e = cc

-- the node that a take gives is born, waiting and open
pub record Given (p : Program) (s : Settings) (past : List Entry) (i : ℕ) : Type 0 where
  pub born : i < length (nodes_of p past)
  pub waits : is_waiting (state_of past i) ≡ true
  pub open_node : is_open p s past i ≡ true

pub take_gives : (p : Program) (s : Settings) (past : List Entry) (i : ℕ) → take_reply p s past
    ≡ gives i → Given p s past i
unfolding take_reply
take_gives p s past i e =
    let q = first_below_holds _ (waits_live p s past) (length (nodes_of p past)) i
    (reply_node (next_of p s past) _ _ i e) in
    let r = and_parts (is_waiting (state_of past i)) (is_open p s past i) q.1 in
    record { born = q.0; waits = r.0; open_node = r.1 }
