-- The pool of the waiting nodes follows the records.
use Rattle.std.proofs.Common.{◌≡◌, ℕ, zero, suc, ◌+◌, ◌<◌, ◌≤◌, List, [], ◌∷◌, ◌++◌, length, refl}
use Rattle.std.proofs.Common.{ap, sym, ◌∙◌, subst, arith, Bool, true, false, cond, Some, None}
use Rattle.std.proofs.Common.{Option, inl, inr, true≢false}
use Rattle.std.specs.Prelude.{slice_get, slice_set, ℤ, int_lt, ◌-ℤ◌, ◌&&◌, ◌==◌, IfSome}
use Rattle.std.proofs.lemmas.Bool.{cases_eq, eq-eqb, ne_eqb, cond-true, cond-false, and_parts}
use Rattle.std.proofs.lemmas.Option.{slice_get_within, slice_get_past}
use Rattle.std.proofs.lemmas.Int.{ints}
use Rattle.bl_problem.specs.Points.{value_of}
use Rattle.bl_pool.specs.declared.key.Key.{Key}
use Rattle.bl_pool.specs.declared.key.Order.{Order}
use Rattle.bl_pool.specs.Orders.{before}
use Rattle.bl_pool.specs.Views.{PoolView, IsFirst, key_in}
use Rattle.bl_pool.proofs.OrderLaws.{total}
use Rattle.bl_problem.specs.Program.{Program}
use Rattle.bl_problem.specs.declared.cut.Cut.{Cut}
use Rattle.bl_desc.specs.declared.desc.Piece.{Piece}
use Rattle.bl_journal.specs.declared.entry.Entry.{Entry}
use Rattle.bl_journal.specs.declared.entry.Entry.TheVariants.{Put}
use Rattle.bl_journal.specs.declared.entry.Step.{Step}
use Rattle.bl_journal.specs.declared.settings.Settings.{Settings}
use Rattle.bl_journal.specs.Births.{nodes_of, node_at}
use Rattle.bl_journal.specs.States.{is_below, cutoff_for, Found, best_of, best_with, value_less}
use Rattle.bl_journal.specs.Replies.{key_of, next_of, waits_live, is_waiting}
use Rattle.bl_tree.specs.declared.record.Record.{Record}
use Rattle.bl_tree.specs.Records.{may_wait, waits, fresh_record, record_key, gone_record, gone_at}
use Rattle.bl_tree.specs.Records.{IsQueued, IsThinned, AreQueued, AreRecords, IsRecordOf}
use Rattle.bl_tree.specs.Records.{IsFreedTo}
use Rattle.bl_tree.proofs.Kept.{has_record, waits_same}
use Rattle.bl_tree.proofs.Searches.{first_below_is, first_below_no}
use Rattle.bl_tree.proofs.Climbing.{KnowsParents, gone_at-is, knows_gone, parent_not_waiting}

-- ---- lists of which one element changes, or that two are added to

pub set_here : {X : Type 0} (xs : List X) (i : ℕ) (r y : X) → slice_get xs i ≡ Some r
    → slice_get (slice_set xs i y) i ≡ Some y
set_here [] i r y e = cc
set_here (x ∷ xs) zero r y e = refl
set_here (x ∷ xs) (suc i) r y e = set_here xs i r y e

pub set_other : {X : Type 0} (xs : List X) (i k : ℕ) (y : X) → (k ≡ i → ⊥)
    → slice_get (slice_set xs i y) k ≡ slice_get xs k
set_other [] i k y ne = refl
set_other (x ∷ xs) zero zero y ne = absurd (ne refl)
set_other (x ∷ xs) zero (suc k) y ne = refl
set_other (x ∷ xs) (suc i) zero y ne = refl
set_other (x ∷ xs) (suc i) (suc k) y ne = set_other xs i k y (λ e. ne (ap suc e))

two_first : {X : Type 0} (xs : List X) (l r : X) → slice_get (xs ++ l ∷ r ∷ []) (length xs) ≡ Some l
two_first [] l r = refl
two_first (x ∷ xs) l r = two_first xs l r

two_second : {X : Type 0} (xs : List X) (l r : X) (n : ℕ) → n ≡ length xs + 1
    → slice_get (xs ++ l ∷ r ∷ []) n ≡ Some r
two_second [] l r zero e = absurd (omega (arith, e))
two_second [] l r (suc zero) e = refl
two_second [] l r (suc (suc n)) e = absurd (omega (arith, e))
two_second (x ∷ xs) l r zero e = absurd (omega (arith, e))
two_second (x ∷ xs) l r (suc n) e = two_second xs l r n (omega (arith, e))

two_others : {X : Type 0} (xs : List X) (l r : X) (k : ℕ) → (k ≡ length xs → ⊥)
    → (k ≡ length xs + 1 → ⊥) → slice_get (xs ++ l ∷ r ∷ []) k ≡ slice_get xs k
two_others [] l r zero a b = absurd (a refl)
two_others [] l r (suc zero) a b = absurd (b refl)
two_others [] l r (suc (suc k)) a b = refl
two_others (x ∷ xs) l r zero a b = refl
two_others (x ∷ xs) l r (suc k) a b =
    two_others xs l r k (λ e. a (ap suc e)) (λ e. b (omega (arith, e)))

-- ---- one node

and_false : (a b : Bool) → (a && (b && false)) ≡ false
and_false true true = refl
and_false true false = refl
and_false false b = refl

-- what does not wait has no key
pub queued_not : (cutoff : Option ℤ) (id : ℕ) (r : Record) (k : Option Key)
    → IsQueued cutoff id (Some r) k → is_waiting r.stage ≡ false → k ≡ None
queued_not cutoff id r None q w = refl
queued_not cutoff id r (Some k) q w =
    absurd (true≢false (sym (and_parts (is_waiting r.stage) r.has_point q.0).0 ∙ w))

-- nor has what is not born
pub queued_unborn : (cutoff : Option ℤ) (id : ℕ) (k : Option Key) → IsQueued cutoff id None k → k
    ≡ None
queued_unborn cutoff id None q = refl
queued_unborn cutoff id (Some k) q = absurd q

-- a live waiting node has its key
pub queued_live : (cutoff : Option ℤ) (id : ℕ) (r : Record) (k : Option Key)
    → IsQueued cutoff id (Some r) k → waits cutoff r ≡ true → k ≡ Some (record_key id r)
queued_live cutoff id r None q w = absurd (true≢false (sym w ∙ q))
queued_live cutoff id r (Some k) q w = ap Some q.1

pub queued_none : (cutoff : Option ℤ) (id : ℕ) (r : Record) (k : Option Key) → is_waiting r.stage
    ≡ false → k ≡ None → IsQueued cutoff id (Some r) k
queued_none cutoff id r k w none = subst (λ (o : Option Key). IsQueued cutoff id (Some r) o)
    (sym none) (ap (λ t. t && (r.has_point && is_below r.low cutoff)) w)

-- a node that waits from now on
pub queued_new : (cutoff : Option ℤ) (id : ℕ) (r : Record) (k : Key) (o : Option Key)
    → is_waiting r.stage ≡ true → k ≡ record_key id r → o ≡ cond r.has_point (Some k) None
    → IsQueued cutoff id (Some r) o
queued_new cutoff id r k o w e is =
    subst (λ (x : Option Key). IsQueued cutoff id (Some r) x) (sym is) (by_test r.has_point refl)
  where
    by_test : (t : Bool) → r.has_point ≡ t → IsQueued cutoff id (Some r) (cond t (Some k) None)
    by_test true h = (ap (λ a. a && r.has_point) w ∙ h, e)
    by_test false h = ap (λ a. is_waiting r.stage && (a && is_below r.low cutoff)) h
        ∙ nothing (is_waiting r.stage)
      where
        nothing : (a : Bool) → (a && false) ≡ false
        nothing true = refl
        nothing false = refl

-- fewer numbers are below the new cutoff
pub queued_moved : (cutoff cutoff' : Option ℤ) (id : ℕ) (o : Option Record) (k : Option Key)
    → ((n : ℤ) → is_below n cutoff' ≡ true → is_below n cutoff ≡ true) → IsQueued cutoff id o k
    → IsQueued cutoff' id o k
queued_moved cutoff cutoff' id None None f q = tt
queued_moved cutoff cutoff' id None (Some k) f q = q
queued_moved cutoff cutoff' id (Some r) (Some k) f q = q
queued_moved cutoff cutoff' id (Some r) None f q = by_test (is_below r.low cutoff') refl
  where
    by_test : (t : Bool) → is_below r.low cutoff' ≡ t → waits cutoff' r ≡ false
    by_test true h = ap (λ t. is_waiting r.stage && (r.has_point && t)) (h ∙ sym (f r.low h)) ∙ q
    by_test false h = ap (λ t. is_waiting r.stage && (r.has_point && t)) h
        ∙ and_false (is_waiting r.stage) r.has_point

-- a key that is not below the cutoff may go
queued_thinned : (cutoff : Option ℤ) (id : ℕ) (o : Option Record) (k k' : Option Key)
    → IsThinned cutoff k k' → IsQueued cutoff id o k → IsQueued cutoff id o k'
queued_thinned cutoff id o k k' (inl same) q =
    subst (λ (x : Option Key). IsQueued cutoff id o x) (sym same) q
queued_thinned cutoff id o k k' (inr gone) q =
    subst (λ (x : Option Key). IsQueued cutoff id o x) (sym gone.0) (by_parts o k q gone.1)
  where
    by_parts : (o : Option Record) (k : Option Key) → IsQueued cutoff id o k
        → IfSome k (λ x. is_below x.low cutoff ≡ false) → IsQueued cutoff id o None
    by_parts None None q h = tt
    by_parts None (Some k) q h = tt
    by_parts (Some r) None q h = q
    by_parts (Some r) (Some k) q h =
        let low : k.low ≡ r.low = ap (λ (x : Key). x.low) q.1 in
        let past : is_below r.low cutoff ≡ false = ap (λ n. is_below n cutoff) (sym low) ∙ h in
        ap (λ t. is_waiting r.stage && (r.has_point && t)) past
        ∙ and_false (is_waiting r.stage) r.has_point

-- ---- all nodes

abbrev pub Queued : Option ℤ → List Record → PoolView → Type 0
Queued cutoff kept pool = (id : ℕ) → IsQueued cutoff id (slice_get kept id) (key_in pool id)

pub all_moved : (cutoff cutoff' : Option ℤ) (kept : List Record) (pool : PoolView)
    → ((n : ℤ) → is_below n cutoff' ≡ true → is_below n cutoff ≡ true) → Queued cutoff kept pool
    → Queued cutoff' kept pool
all_moved cutoff cutoff' kept pool f q id =
    queued_moved cutoff cutoff' id (slice_get kept id) (key_in pool id) f (q id)

pub all_thinned : (cutoff : Option ℤ) (kept : List Record) (pool pool' : PoolView)
    → ((id : ℕ) → IsThinned cutoff (key_in pool id) (key_in pool' id)) → Queued cutoff kept pool
    → Queued cutoff kept pool'
all_thinned cutoff kept pool pool' t q id =
    queued_thinned cutoff id (slice_get kept id) (key_in pool id) (key_in pool' id) (t id) (q id)

-- the same of the pool, whose cutoff may stand in other words
pub thinned : (order : Order) (cutoff cutoff' : Option ℤ) (kept : List Record)
    (pool pool' : PoolView) → cutoff ≡ cutoff' → pool'.order ≡ pool.order
    → ((id : ℕ) → IsThinned cutoff (key_in pool id) (key_in pool' id))
    → AreQueued order cutoff' kept pool → AreQueued order cutoff kept pool'
thinned order cutoff cutoff' kept pool pool' cut same t q = record {
  same_order = same ∙ q.same_order;
  each = all_thinned cutoff kept pool pool' t
      (subst (λ (c : Option ℤ). Queued c kept pool) (sym cut) q.each);
}

pub all_same : (cutoff : Option ℤ) (kept : List Record) (pool pool' : PoolView)
    → ((id : ℕ) → key_in pool' id ≡ key_in pool id) → Queued cutoff kept pool
    → Queued cutoff kept pool'
all_same cutoff kept pool pool' same q id =
    subst (λ (x : Option Key). IsQueued cutoff id (slice_get kept id) x) (sym (same id)) (q id)

-- a record changes, and the key of its node
pub all_set : (cutoff : Option ℤ) (kept : List Record) (pool pool' : PoolView) (id : ℕ)
    (r y : Record) → slice_get kept id ≡ Some r → IsQueued cutoff id (Some y) (key_in pool' id)
    → ((o : ℕ) → (o ≡ id → ⊥) → key_in pool' o ≡ key_in pool o) → Queued cutoff kept pool
    → Queued cutoff (slice_set kept id y) pool'
all_set cutoff kept pool pool' id r y e here others q o = elim (cases_eq o id) [
  | inl same ↦ subst (λ (m : ℕ). IsQueued cutoff m (slice_get (slice_set kept id y) m)
      (key_in pool' m)) (sym same)
      (subst (λ (x : Option Record). IsQueued cutoff id x (key_in pool' id))
      (sym (set_here kept id r y e)) here)
  | inr other ↦ subst (λ (x : Option Record). IsQueued cutoff o x (key_in pool' o))
      (sym (set_other kept id o y other))
      (subst (λ (x : Option Key). IsQueued cutoff o (slice_get kept o) x) (sym (others o other))
      (q o))
]

-- what is not born has no key
pub all_unborn : (cutoff : Option ℤ) (kept : List Record) (pool : PoolView) (n : ℕ) → length kept
    ≤ n → Queued cutoff kept pool → key_in pool n ≡ None
all_unborn cutoff kept pool n h q = queued_unborn cutoff n (key_in pool n)
    (subst (λ (x : Option Record). IsQueued cutoff n x (key_in pool n)) (slice_get_past kept n h)
    (q n))

-- two records are added, and the keys of their nodes
pub all_two : (cutoff : Option ℤ) (kept : List Record) (pool pool' : PoolView) (n : ℕ)
    (l r : Record) → n ≡ length kept → IsQueued cutoff n (Some l) (key_in pool' n)
    → IsQueued cutoff (n + 1) (Some r) (key_in pool' (n + 1))
    → ((o : ℕ) → (o ≡ n → ⊥) → (o ≡ n + 1 → ⊥) → key_in pool' o ≡ key_in pool o)
    → Queued cutoff kept pool → Queued cutoff (kept ++ l ∷ r ∷ []) pool'
all_two cutoff kept pool pool' n l r at left right others q o = elim (cases_eq o n) [
  | inl same ↦ subst (λ (m : ℕ). IsQueued cutoff m (slice_get (kept ++ l ∷ r ∷ []) m)
      (key_in pool' m)) (sym same)
      (subst (λ (x : Option Record). IsQueued cutoff n x (key_in pool' n))
      (sym (ap (slice_get (kept ++ l ∷ r ∷ [])) at ∙ two_first kept l r)) left)
  | inr other ↦ elim (cases_eq o (n + 1)) [
    | inl same ↦ subst (λ (m : ℕ). IsQueued cutoff m (slice_get (kept ++ l ∷ r ∷ []) m)
        (key_in pool' m)) (sym same)
        (subst (λ (x : Option Record). IsQueued cutoff (n + 1) x (key_in pool' (n + 1)))
        (sym (two_second kept l r (n + 1) (ap (λ m. m + 1) at))) right)
    | inr far ↦ subst (λ (x : Option Record). IsQueued cutoff o x (key_in pool' o))
        (sym (two_others kept l r o (λ e. other (e ∙ sym at))
        (λ e. far (e ∙ ap (λ m. m + 1) (sym at)))))
        (subst (λ (x : Option Key). IsQueued cutoff o (slice_get kept o) x)
        (sym (others o other far)) (q o))
  ]
]

-- two children are added, and their keys
pub all_split : (cutoff : Option ℤ) (kept : List Record) (pool pool' : PoolView) (id n depth : ℕ)
    (low : ℤ) (lo ro : Bool) (left right : Piece Cut) → n ≡ length kept
    → key_in pool' n ≡ cond lo (Some (record { id = n; low = low; depth = depth })) None
    → key_in pool' (n + 1) ≡ cond ro (Some (record { id = n + 1; low = low; depth = depth })) None
    → ((o : ℕ) → (o ≡ n → ⊥) → (o ≡ n + 1 → ⊥) → key_in pool' o ≡ key_in pool o)
    → Queued cutoff kept pool → Queued cutoff (kept ++ fresh_record id depth low lo left
    ∷ fresh_record id depth low ro right ∷ []) pool'
all_split cutoff kept pool pool' id n depth low lo ro left right at first second others q =
    all_two cutoff kept pool pool' n (fresh_record id depth low lo left)
    (fresh_record id depth low ro right) at
    (queued_new cutoff n (fresh_record id depth low lo left)
    (record { id = n; low = low; depth = depth }) (key_in pool' n) refl refl first)
    (queued_new cutoff (n + 1) (fresh_record id depth low ro right)
    (record { id = n + 1; low = low; depth = depth }) (key_in pool' (n + 1)) refl refl second)
    others q

-- a node whose record says the same of its waiting
pub all_like : (cutoff : Option ℤ) (kept : List Record) (pool : PoolView) (id : ℕ) (r y : Record)
    → slice_get kept id ≡ Some r → y.stage ≡ r.stage → y.has_point ≡ r.has_point → y.low ≡ r.low
    → y.depth ≡ r.depth
    → Queued cutoff kept pool → Queued cutoff (slice_set kept id y) pool
all_like cutoff kept pool id r y e stage point low depth q =
    all_set cutoff kept pool pool id r y e (like (key_in pool id)
    (subst (λ (x : Option Record). IsQueued cutoff id x (key_in pool id)) e (q id)))
    (λ o ne. refl) q
  where
    like : (k : Option Key) → IsQueued cutoff id (Some r) k → IsQueued cutoff id (Some y) k
    like None q = cc
    like (Some k) q =
        let w : may_wait r ≡ true = q.0 in
        let is : k ≡ record_key id r = q.1 in
        (let h : may_wait y ≡ true = cc in h, let h : k ≡ record_key id y = cc in h)

-- the node's record says that it waits no more, and its key is gone
pub all_left : (cutoff : Option ℤ) (kept : List Record) (pool pool' : PoolView) (id : ℕ)
    (r y : Record) → slice_get kept id ≡ Some r → is_waiting y.stage ≡ false
    → ((o : ℕ) → key_in pool' o ≡ cond (o == id) None (key_in pool o)) → Queued cutoff kept pool
    → Queued cutoff (slice_set kept id y) pool'
all_left cutoff kept pool pool' id r y e w keys q =
    all_set cutoff kept pool pool' id r y e
    (queued_none cutoff id y (key_in pool' id) w
    (keys id ∙ cond-true (id == id) None (key_in pool id) (eq-eqb id id refl)))
    (λ o ne. keys o ∙ cond-false (o == id) None (key_in pool o) (ne_eqb o id ne)) q

-- a node that did not wait, and does not
pub all_passed : (cutoff : Option ℤ) (kept : List Record) (pool : PoolView) (id : ℕ)
    (r y : Record) → slice_get kept id ≡ Some r → is_waiting r.stage ≡ false → is_waiting y.stage
    ≡ false
    → Queued cutoff kept pool → Queued cutoff (slice_set kept id y) pool
all_passed cutoff kept pool id r y e was w q =
    all_set cutoff kept pool pool id r y e
    (queued_none cutoff id y (key_in pool id) w
    (queued_not cutoff id r (key_in pool id)
    (subst (λ (x : Option Record). IsQueued cutoff id x (key_in pool id)) e (q id)) was))
    (λ o ne. refl) q

-- ---- freeing

above : (cut cutoff : Option ℤ) (ids : List ℕ) (rs : List Record) (id last : ℕ)
    (after : List Record) (pool : PoolView) → IsFreedTo cutoff rs id ids last after
    → KnowsParents rs
    → (r : Record) → slice_get rs id ≡ Some r → is_waiting r.stage ≡ false → Queued cut rs pool
    → Queued cut after pool
above cut cutoff [] rs id last after pool f k r e w q =
    subst (λ (l : List Record). Queued cut l pool) (sym (f.1 ∙ gone_at-is rs id r e))
    (all_passed cut rs pool id r (gone_record r) e w refl q)
above cut cutoff (i ∷ ids) rs id last after pool f k r e w q =
    let x = parent_not_waiting cutoff (gone_at rs id) id i (knows_gone rs id k) f.0 in
    above cut cutoff ids (gone_at rs id) i last after pool f.1 (knows_gone rs id k) x.0 x.1 x.2
    (subst (λ (l : List Record). Queued cut l pool) (sym (gone_at-is rs id r e))
    (all_passed cut rs pool id r (gone_record r) e w refl q))

-- the first freed node alone may have waited
pub all_freed : (cut cutoff : Option ℤ) (ids : List ℕ) (rs : List Record) (id last : ℕ)
    (after : List Record) (pool pool' : PoolView) → IsFreedTo cutoff rs id ids last after
    → KnowsParents rs
    → (r : Record) → slice_get rs id ≡ Some r
    → ((o : ℕ) → key_in pool' o ≡ cond (o == id) None (key_in pool o)) → Queued cut rs pool
    → Queued cut after pool'
all_freed cut cutoff ids rs id last after pool pool' f k r e keys q = by_list ids f
  where
    front : Queued cut (gone_at rs id) pool'
    front = subst (λ (l : List Record). Queued cut l pool') (sym (gone_at-is rs id r e))
        (all_left cut rs pool pool' id r (gone_record r) e refl keys q)

    by_list : (ids : List ℕ) → IsFreedTo cutoff rs id ids last after → Queued cut after pool'
    by_list [] f = subst (λ (l : List Record). Queued cut l pool') (sym f.1) front
    by_list (i ∷ ids) f =
        let x = parent_not_waiting cutoff (gone_at rs id) id i (knows_gone rs id k) f.0 in
        above cut cutoff ids (gone_at rs id) i last after pool' f.1 (knows_gone rs id k) x.0 x.1
        x.2 front

-- ---- a better point

less_less : (n v w gap : ℤ) → int_lt v w ≡ true → int_lt n (v -ℤ gap) ≡ true → int_lt n (w -ℤ gap)
    ≡ true
less_less n v w gap e h = grind (arith, ints, e, h)

-- what is below the cutoff after a put was below it
pub below_before : (gap : ℤ) (p : Program) (o : Option Found) (found : Option (List ℤ)) (n : ℤ)
    → is_below n (value_less gap (best_with p o found)) ≡ true → is_below n (value_less gap o)
    ≡ true
below_before gap p o found n h = falls o found h
  where
    falls : (o : Option Found) (found : Option (List ℤ))
        → is_below n (value_less gap (best_with p o found)) ≡ true → is_below n (value_less gap o)
        ≡ true
    falls o None h = h
    falls None (Some x) h = refl
    falls (Some b) (Some x) h = by_test (int_lt (value_of p x) b.value) refl h
      where
        by_test : (t : Bool) → int_lt (value_of p x) b.value ≡ t
            → is_below n
            (value_less gap (cond t (Some (record { value = value_of p x; point = x })) (Some b)))
            ≡ true → is_below n (value_less gap (Some b)) ≡ true
        by_test true e h = less_less n (value_of p x) b.value gap e h
        by_test false e h = h

-- a put moves the cutoff down, or leaves it
pub put_moved : (p : Program) (s : Settings) (past : List Entry) (kept : List Record)
    (pool : PoolView) (seat id : ℕ) (found : Option (List ℤ)) (low : ℤ) (next : Step)
    → Queued (cutoff_for p s past) kept pool
    → Queued (cutoff_for p s (Put seat id found low next ∷ past)) kept pool
put_moved p s past kept pool seat id found low next q =
    all_moved (cutoff_for p s past) (cutoff_for p s (Put seat id found low next ∷ past)) kept pool
    (λ n h. below_before s.gap p (best_of p past) found n h) q

-- ---- the reply

-- the first key below the cutoff is that of the next node
pub next_first : (p : Program) (s : Settings) (past : List Entry) (kept : List Record)
    (cutoff : Option ℤ) (pool : PoolView) (k : Key) → AreRecords p past kept → cutoff
    ≡ cutoff_for p s past → AreQueued s.order cutoff kept pool
    → IsFirst pool k → is_below k.low cutoff ≡ true → next_of p s past ≡ Some k.id
next_first p s past kept cutoff pool k rs cut q first low =
    first_below_is (λ i j. before s.order (key_of p past i) (key_of p past j))
    (waits_live p s past) (length (nodes_of p past)) k.id
    born fits (λ i h f. last i h f)
    (λ i h f ne. total s.order (key_of p past i) (key_of p past k.id) (last i h f) ne)
  where
    here : IsQueued cutoff k.id (slice_get kept k.id) (Some k)
    here = subst (λ (x : Option Key). IsQueued cutoff k.id (slice_get kept k.id) x) first.held
        (q.each k.id)

    found : (r : Record) × (slice_get kept k.id ≡ Some r) × (may_wait r ≡ true)
        × (k ≡ record_key k.id r)
    found = by_option (slice_get kept k.id) refl here
      where
        by_option : (o : Option Record) → slice_get kept k.id ≡ o
            → IsQueued cutoff k.id o (Some k) → (r : Record) × (slice_get kept k.id ≡ Some r)
            × (may_wait r ≡ true) × (k ≡ record_key k.id r)
        by_option None e h = absurd h
        by_option (Some r) e h = (r, e, h.0, h.1)

    same_key : (i : ℕ) (r : Record) → IsRecordOf p past i r → record_key i r ≡ key_of p past i
    same_key i r f = let low : r.low ≡ (node_at p past i).low = f.low in let depth : r.depth
        ≡ (node_at p past i).depth = f.depth in cc

    born : k.id < length (nodes_of p past)
    born = let a = slice_get_within kept k.id found.0 found.1 in let c =
        rs.count in omega (arith, a, c)

    fits : waits_live p s past k.id ≡ true
    fits =
        let r = found.0 in
        let parts = and_parts (is_waiting r.stage) r.has_point found.2 in
        let at : k.low ≡ r.low = ap (λ (x : Key). x.low) found.3 in
        sym (waits_same p s past k.id r cutoff cut (rs.each k.id r found.1))
        ∙ (ap (λ t. t && (r.has_point && is_below r.low cutoff)) parts.0
        ∙ (ap (λ t. t && is_below r.low cutoff) parts.1
        ∙ (ap (λ n. is_below n cutoff) (sym at) ∙ low)))

    last : (i : ℕ) → i < length (nodes_of p past) → waits_live p s past i ≡ true
        → before s.order (key_of p past i) (key_of p past k.id) ≡ false
    last i h f =
        let c = rs.count in
        let x = has_record p past kept i rs (omega (arith, h, c)) in
        let w : waits cutoff x.0 ≡ true = waits_same p s past i x.0 cutoff cut (rs.each i x.0 x.1)
        ∙ f in
        let held : key_in pool i ≡ Some (record_key i x.0) =
        queued_live cutoff i x.0 (key_in pool i)
        (subst (λ (o : Option Record). IsQueued cutoff i o (key_in pool i)) x.1 (q.each i)) w in
        let mine : key_of p past k.id ≡ k =
        sym (same_key k.id found.0 (rs.each k.id found.0 found.1)) ∙ sym found.3 in
        ap (λ (o : Order). before o (key_of p past i) (key_of p past k.id)) (sym q.same_order)
        ∙ (ap (λ (y : Key). before pool.order (key_of p past i) y) mine
        ∙ (ap (λ (y : Key). before pool.order y k) (sym (same_key i x.0 (rs.each i x.0 x.1)))
        ∙ first.least i (record_key i x.0) held))

-- no key, no next node
pub next_none : (p : Program) (s : Settings) (past : List Entry) (kept : List Record)
    (cutoff : Option ℤ) (pool : PoolView) → AreRecords p past kept → cutoff ≡ cutoff_for p s past
    → AreQueued s.order cutoff kept pool
    → ((id : ℕ) → key_in pool id ≡ None) → next_of p s past ≡ None
next_none p s past kept cutoff pool rs cut q none =
    first_below_no (λ i j. before s.order (key_of p past i) (key_of p past j))
    (waits_live p s past) (length (nodes_of p past))
    (λ i h.
    let c = rs.count in
    let x = has_record p past kept i rs (omega (arith, h, c)) in
    sym (waits_same p s past i x.0 cutoff cut (rs.each i x.0 x.1))
    ∙ subst (λ (o : Option Key). IsQueued cutoff i (Some x.0) o) (none i)
    (subst (λ (o : Option Record). IsQueued cutoff i o (key_in pool i)) x.1 (q.each i)))
