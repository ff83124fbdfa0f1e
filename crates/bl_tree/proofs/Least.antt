-- The least low number of the live nodes, by the pool of the waiting ones.
use Rattle.std.proofs.Common.{◌≡◌, ℕ, zero, suc, ◌⊎◌, List, [], ◌∷◌, refl, ap, sym, ◌∙◌, subst}
use Rattle.std.proofs.Common.{arith, Bool, true, false, Some, None, Option, inl, inr, true≢false}
use Rattle.std.specs.Prelude.{slice_get, count_by, fold, ℤ, ◌≤ℤ◌, ◌||◌, ◌&&◌}
use Rattle.std.specs.Int.{int_min}
use Rattle.std.proofs.lemmas.Int.{ints}
use Rattle.std.proofs.lemmas.Bool.Decides.{nat_tests}
use Rattle.std.proofs.lemmas.Bool.{and_parts}
use Rattle.bl_pool.specs.declared.key.Key.{Key}
use Rattle.bl_pool.specs.declared.key.Order.{Order}
use Rattle.bl_pool.specs.declared.key.Order.TheVariants.{Best}
use Rattle.bl_pool.specs.Orders.{before}
use Rattle.bl_pool.specs.Views.{PoolView, IsFirst, key_in}
use Rattle.bl_journal.specs.States.{is_below}
use Rattle.bl_journal.specs.declared.state.State.TheVariants.{Waiting as waiting}
use Rattle.bl_journal.specs.Replies.{is_out, is_waiting}
use Rattle.bl_journal.proofs.Sums.{one_if}
use Rattle.bl_tree.specs.declared.record.Record.{Record}
use Rattle.bl_tree.specs.Records.{may_wait, waits, lives, live_lows, least_if, record_key}
use Rattle.bl_tree.specs.Records.{IsQueued, AreQueued}
use Rattle.bl_tree.proofs.Sets.{count_by-set}
use Rattle.bl_tree.proofs.Queues.{queued_live}

-- the same of a cutoff in other words
pub queued_at : (order : Order) (cutoff cutoff' : Option ℤ) (kept : List Record) (pool : PoolView)
    → cutoff ≡ cutoff' → AreQueued order cutoff' kept pool → AreQueued order cutoff kept pool
queued_at order cutoff cutoff' kept pool cut q =
    subst (λ (c : Option ℤ). AreQueued order c kept pool) (sym cut) q

-- a live node with this low number
abbrev HasLow : Option ℤ → ℤ → List Record → Type 0
HasLow cutoff m rs = (i : ℕ) × (r : Record) × (slice_get rs i ≡ Some r) × (lives cutoff r ≡ true)
    × (r.low ≡ m)

-- no live node has a lower one
abbrev IsBelowAll : Option ℤ → ℤ → List Record → Type 0
IsBelowAll cutoff m rs = (i : ℕ) (r : Record) → slice_get rs i ≡ Some r → lives cutoff r ≡ true
    → m ≤ℤ r.low

lesser_here : (m a b : ℤ) → m ≤ℤ b → a ≡ m → int_min a b ≡ m
lesser_here m a b h e = grind (arith, ints, h, e)

lesser_there : (m a b : ℤ) → m ≤ℤ a → b ≡ m → int_min a b ≡ m
lesser_there m a b h e = grind (arith, ints, h, e)

lesser_above : (m a b : ℤ) → m ≤ℤ a → m ≤ℤ b → m ≤ℤ int_min a b
lesser_above m a b h e = grind (arith, ints, h, e)

fold_least : (cutoff : Option ℤ) (m a : ℤ) (rs : List Record) → m ≤ℤ a → IsBelowAll cutoff m rs
    → (a ≡ m) ⊎ HasLow cutoff m rs → fold int_min a (live_lows cutoff rs) ≡ m
fold_least cutoff m a [] h all (inl e) = e
fold_least cutoff m a [] h all (inr x) = let f : None ≡ Some x.1 = x.2 in cc
fold_least cutoff m a (r ∷ rs) h all some =
    by_test (λ b g s. fold_least cutoff m b rs g (λ i q e l. all (suc i) q e l) s)
    (lives cutoff r) refl
  where
    fewer : lives cutoff r ≡ false → (a ≡ m) ⊎ HasLow cutoff m (r ∷ rs) → (a ≡ m)
        ⊎ HasLow cutoff m rs
    fewer t (inl e) = inl e
    fewer t (inr (zero, z, e, l, w)) = let same : Some r ≡ Some z = e in let q : r ≡ z =
        cc in absurd (true≢false (sym (ap (lives cutoff) q ∙ l) ∙ t))
    fewer t (inr (suc i, z, e, l, w)) = inr (i, z, e, l, w)

    next : m ≤ℤ r.low → (a ≡ m) ⊎ HasLow cutoff m (r ∷ rs) → (int_min a r.low ≡ m)
        ⊎ HasLow cutoff m rs
    next b (inl e) = inl (lesser_here m a r.low b e)
    next b (inr (zero, z, e, l, w)) = let same : Some r ≡ Some z = e in let q : r ≡ z =
        cc in inl (lesser_there m a r.low h (ap (λ (y : Record). y.low) q ∙ w))
    next b (inr (suc i, z, e, l, w)) = inr (i, z, e, l, w)

    by_test : ((b : ℤ) → m ≤ℤ b → (b ≡ m) ⊎ HasLow cutoff m rs
        → fold int_min b (live_lows cutoff rs) ≡ m) → (t : Bool) → lives cutoff r ≡ t
        → fold int_min a (live_lows cutoff (r ∷ rs)) ≡ m
    by_test later true t =
        let b : m ≤ℤ r.low = all 0 r refl t in
        rw t (later (int_min a r.low) (lesser_above m a r.low h b) (next b some))
    by_test later false t = rw t (later a h (fewer t some))

least_is : (cutoff : Option ℤ) (m : ℤ) (rs : List Record) → IsBelowAll cutoff m rs
    → HasLow cutoff m rs → least_if (live_lows cutoff rs) ≡ Some m
least_is cutoff m [] all x = let f : None ≡ Some x.1 = x.2 in cc
least_is cutoff m (r ∷ rs) all some =
    by_test (λ x. least_is cutoff m rs (λ i q e l. all (suc i) q e l) x) (lives cutoff r) refl some
  where
    rest : IsBelowAll cutoff m rs
    rest i q e l = all (suc i) q e l

    by_test : (HasLow cutoff m rs → least_if (live_lows cutoff rs) ≡ Some m) → (t : Bool)
        → lives cutoff r ≡ t → HasLow cutoff m (r ∷ rs) → least_if (live_lows cutoff (r ∷ rs))
        ≡ Some m
    by_test later true t (zero, z, e, l, w) =
        let same : Some r ≡ Some z = e in
        let q : r ≡ z = cc in
        rw t (ap Some (fold_least cutoff m r.low rs (all 0 r refl t) rest
        (inl (ap (λ (y : Record). y.low) q ∙ w))))
    by_test later true t (suc i, z, e, l, w) =
        rw t (ap Some (fold_least cutoff m r.low rs (all 0 r refl t) rest (inr (i, z, e, l, w))))
    by_test later false t (zero, z, e, l, w) = let same : Some r ≡ Some z = e in let q : r ≡ z =
        cc in absurd (true≢false (sym (ap (lives cutoff) q ∙ l) ∙ t))
    by_test later false t (suc i, z, e, l, w) = rw t (later (i, z, e, l, w))

none_live : (cutoff : Option ℤ) (rs : List Record)
    → ((i : ℕ) (r : Record) → slice_get rs i ≡ Some r → lives cutoff r ≡ false)
    → live_lows cutoff rs ≡ []
none_live cutoff [] h = refl
none_live cutoff (r ∷ rs) h = let t : lives cutoff r ≡ false =
    h 0 r refl in rw t (none_live cutoff rs (λ i q e. h (suc i) q e))

-- where no node is out, a live node waits
waits_alone : (cutoff : Option ℤ) (kept : List Record) (outs i : ℕ) (r : Record) → outs
    ≡ count_by (λ (q : Record). is_out q.stage) kept → outs ≡ 0 → slice_get kept i ≡ Some r
    → lives cutoff r ≡ waits cutoff r
waits_alone cutoff kept outs i r count none e =
    ap (λ t. t || waits cutoff r) (no_one (is_out r.stage)
    (let c = count_by-set (λ (q : Record). is_out q.stage) kept i
    (record r { stage = waiting }) r e in omega (arith, c, count, none)))
  where
    no_one : (t : Bool) → one_if t ≡ 0 → t ≡ false
    no_one true h = absurd (omega (arith, h))
    no_one false h = refl

not_before : (a b : Key) → before Best a b ≡ false → b.low ≤ℤ a.low
not_before a b h = grind (arith, ints, nat_tests, h)

past_first : (cutoff : Option ℤ) (a b : ℤ) → b ≤ℤ a → is_below b cutoff ≡ false
    → is_below a cutoff ≡ false
past_first None a b h e = e
past_first (Some c) a b h e = grind (arith, ints, h, e)

-- the first key below the cutoff has the least low number
pub first_least : (cutoff : Option ℤ) (order : Order) (kept : List Record) (pool : PoolView)
    (outs : ℕ) (k : Key) → AreQueued order cutoff kept pool → order ≡ Best → outs
    ≡ count_by (λ (q : Record). is_out q.stage) kept → outs ≡ 0
    → IsFirst pool k → is_below k.low cutoff ≡ true → Some k.low ≡ least_if (live_lows cutoff kept)
first_least cutoff order kept pool outs k q best count none first low =
    sym (least_is cutoff k.low kept all (has (slice_get kept k.id) refl here))
  where
    here : IsQueued cutoff k.id (slice_get kept k.id) (Some k)
    here = subst (λ (x : Option Key). IsQueued cutoff k.id (slice_get kept k.id) x) first.held
        (q.each k.id)

    has : (o : Option Record) → slice_get kept k.id ≡ o → IsQueued cutoff k.id o (Some k)
        → HasLow cutoff k.low kept
    has None e h = absurd h
    has (Some r) e h =
        let w : may_wait r ≡ true = h.0 in
        let same : k.low ≡ r.low = ap (λ (x : Key). x.low) h.1 in
        let open_node : is_below r.low cutoff ≡ true = ap (λ n. is_below n cutoff) (sym same)
        ∙ low in
        let parts = and_parts (is_waiting r.stage) r.has_point w in
        let live : waits cutoff r ≡ true = ap (λ t. t && (r.has_point && is_below r.low cutoff))
        parts.0 ∙ (ap (λ t. t && is_below r.low cutoff) parts.1 ∙ open_node) in
        (k.id, r, e, waits_alone cutoff kept outs k.id r count none e ∙ live, sym same)

    all : IsBelowAll cutoff k.low kept
    all i r e l =
        let w : waits cutoff r ≡ true = sym (waits_alone cutoff kept outs i r count none e) ∙ l in
        let held : key_in pool i ≡ Some (record_key i r) =
        queued_live cutoff i r (key_in pool i)
        (subst (λ (o : Option Record). IsQueued cutoff i o (key_in pool i)) e (q.each i)) w in
        not_before (record_key i r) k (ap (λ (o : Order). before o (record_key i r) k)
        (sym (q.same_order ∙ best)) ∙ first.least i (record_key i r) held)

-- no key is below the cutoff: no node is live
pub none_least : (cutoff : Option ℤ) (kept : List Record) (order : Order) (pool : PoolView)
    (outs : ℕ) → AreQueued order cutoff kept pool → outs
    ≡ count_by (λ (q : Record). is_out q.stage) kept → outs ≡ 0
    → ((id : ℕ) (k : Key) → key_in pool id ≡ Some k → is_below k.low cutoff ≡ false) → None
    ≡ least_if (live_lows cutoff kept)
none_least cutoff kept order pool outs q count none past =
    sym (ap least_if (none_live cutoff kept
    (λ i r e. waits_alone cutoff kept outs i r count none e ∙ at i r e (waits cutoff r) refl)))
  where
    at : (i : ℕ) (r : Record) → slice_get kept i ≡ Some r → (t : Bool) → waits cutoff r ≡ t
        → waits cutoff r ≡ false
    at i r e false w = w
    at i r e true w =
        let held : key_in pool i ≡ Some (record_key i r) =
        queued_live cutoff i r (key_in pool i)
        (subst (λ (o : Option Record). IsQueued cutoff i o (key_in pool i)) e (q.each i)) w in
        let low : is_below r.low cutoff ≡ false = past i (record_key i r) held in
        absurd (true≢false (sym (below (is_waiting r.stage) r.has_point (is_below r.low cutoff) w)
        ∙ low))
      where
        below : (a b c : Bool) → (a && (b && c)) ≡ true → c ≡ true
        below true true c h = h
        below true false c h = absurd (true≢false (sym h))
        below false b c h = absurd (true≢false (sym h))

-- the first key is past the cutoff, and so are all
pub all_past : (cutoff : Option ℤ) (pool : PoolView) (k : Key) → pool.order ≡ Best
    → IsFirst pool k → is_below k.low cutoff ≡ false → (id : ℕ) (o : Key) → key_in pool id
    ≡ Some o → is_below o.low cutoff ≡ false
all_past cutoff pool k best first low id o e =
    past_first cutoff o.low k.low (not_before o k (ap (λ (x : Order). before x o k) (sym best)
    ∙ first.least id o e)) low
