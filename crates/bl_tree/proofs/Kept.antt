-- The records follow the history.
use Rattle.std.proofs.Common.{◌≡◌, ℕ, zero, suc, ◌+◌, ◌-◌, ◌*◌, ◌<◌, ◌≤◌, List, [], ◌∷◌, ◌++◌}
use Rattle.std.proofs.Common.{length, refl, ap, sym, ◌∙◌, subst, arith, Bool, true, false, Some}
use Rattle.std.proofs.Common.{Option, length-set}
use Rattle.std.specs.Prelude.{slice_get, slice_set, count_by, reverse, ℤ, ◌==◌, nat_lt}
use Rattle.std.proofs.lemmas.Bool.{eq-eqb, cond-true}
use Rattle.bl_problem.specs.Program.{Program}
use Rattle.bl_journal.specs.declared.entry.Entry.{Entry}
use Rattle.bl_journal.specs.declared.entry.Entry.TheVariants.{Take, Back}
use Rattle.bl_journal.specs.declared.settings.Settings.{Settings}
use Rattle.bl_tree.specs.declared.record.Record.{Record}
use Rattle.bl_journal.specs.Births.{nodes_of, node_at}
use Rattle.bl_journal.specs.Descriptions.{full_of}
use Rattle.bl_journal.specs.States.{state_of, has_point, used_of, is_below, cutoff_for}
use Rattle.bl_journal.specs.declared.state.State.{State}
use Rattle.bl_journal.specs.declared.state.State.TheVariants.{Waiting as waiting, Out as out}
use Rattle.bl_journal.specs.declared.state.State.TheVariants.{Split as split, Shut as shut}
use Rattle.bl_journal.specs.declared.state.State.TheVariants.{Freed as freed}
use Rattle.bl_journal.specs.Replies.{reply_for, next_of, waits_live, is_waiting, is_out, any_out}
use Rattle.bl_journal.specs.Replies.{any_below, take_reply, gives}
use Rattle.bl_journal.proofs.Living.{take_gives}
use Rattle.bl_journal.proofs.Growth.{reverse-push}
use Rattle.bl_tree.proofs.Sets.{count_by-set, records_set, same_box}
use Rattle.bl_tree.proofs.Stored.{stored_stage}
use Rattle.bl_problem.specs.declared.cut.Cut.{Cut}
use Rattle.bl_desc.specs.declared.desc.Piece.{Piece}
use Rattle.bl_tree.specs.Views.{TreeView, LeaseView, past_of}
use Rattle.bl_tree.specs.Calls.{IsTaken}
use Rattle.bl_journal.specs.Pieces.{is_freed, stored_of, chain_along, chained, chain_of, rebuilt}
use Rattle.bl_journal.specs.States.{cutoff_of}
use Rattle.bl_tree.specs.Records.{is_out_if, waits, was_parted, IsRecordOf, AreRecords, IsKept}
use Rattle.bl_journal.proofs.Sums.{one_if}
use Rattle.bl_journal.proofs.Leaves.{shape, out_born, state_kept, is_waiting-is}

pub kept_born : (p : Program) (s : Settings) (past : List Entry) (room capacity : ℕ)
    (kept : List Record) (taken : ℕ) (best : Option ℤ) (id seat : ℕ)
    → IsKept p s past room capacity kept taken best → state_of past id ≡ out seat → id < length kept
kept_born p s past room capacity kept taken best id seat k o =
    let b : id < length (nodes_of p past) = out_born p past id seat (shape p s past k.legal) o in
    let c : length kept ≡ length (nodes_of p past) = k.records.count in
    omega (arith, b, c)

-- a node that is out has room for its own put or back
pub kept_out : (p : Program) (s : Settings) (past : List Entry) (room capacity : ℕ)
    (kept : List Record) (taken : ℕ) (best : Option ℤ) (id seat : ℕ) (r : Record)
    → IsKept p s past room capacity kept taken best → state_of past id ≡ out seat
    → slice_get kept id ≡ Some r
    → (0 < count_by (λ r. is_out r.stage) kept) × (is_out r.stage ≡ true)
kept_out p s past room capacity kept taken best id seat r k o e =
    let st : is_out r.stage ≡ true = ap is_out ((k.records.each id r e).stage ∙ o) in
    let c = count_by-set (λ (q : Record). is_out q.stage) kept id (record r { stage = waiting }) r
    e in
    let one : one_if (is_out r.stage) ≡ 1 = ap one_if st in
    (omega (arith, c, one), st)

pub kept_back : (p : Program) (s : Settings) (past : List Entry) (room room' capacity : ℕ)
    (kept : List Record) (taken : ℕ) (best : Option ℤ) (id seat : ℕ) (r : Record)
    → IsKept p s past room capacity kept taken best → state_of past id ≡ out seat
    → slice_get kept id ≡ Some r → room' + 1 ≡ room
    → IsKept p s (Back seat id ∷ past) room' capacity
    (slice_set kept id (record r { stage = waiting })) (taken - 1) best
kept_back p s past room room' capacity kept taken best id seat r k o e less =
    let c = count_by-set (λ (q : Record). is_out q.stage) kept id (record r { stage = waiting }) r
    e in
    let f = kept_out p s past room capacity kept taken best id seat r k o e in
    let one : one_if (is_out r.stage) ≡ 1 = ap one_if f.1 in
    let before : count_by (λ r. is_out r.stage) kept ≤ room = k.room_is in
    let outs : count_by (λ r. is_out r.stage) kept ≤ taken = k.outs in
    let size : length kept + 2 * count_by (λ r. is_out r.stage) kept ≤ 2 * taken + 1 = k.size in
    let budget : taken ≤ s.nodes = k.budget in
    let same : length (slice_set kept id (record r { stage = waiting })) ≡ length kept =
    length-set kept id (record r { stage = waiting }) in
    record {
      legal = (o, k.legal);
      span_some = k.span_some;
      span_few = k.span_few;
      storage = stored_stage p s past (Back seat id ∷ past) kept id r waiting refl (λ j. refl)
          (λ q ne. state_kept q id (state_of past q) waiting (λ h. ne (sym h)))
          (ap is_freed (cond-true (id == id) waiting (state_of past id) (eq-eqb id id refl)))
          (ap is_freed o)
          (ap was_parted ((k.records.each id r e).stage ∙ o)) k.storage e;
      records = records_set p past (Back seat id ∷ past) kept id r (record r { stage = waiting })
          (same_box r waiting) refl
          (sym (cond-true (id == id) waiting (state_of past id) (eq-eqb id id refl)))
          (λ q ne. state_kept q id (state_of past q) waiting (λ h. ne (sym h)))
          k.records e;
      used = ap (λ n. n - 1) k.used;
      best_is = k.best_is;
      room_is = omega (arith, c, one, before, less);
      capacity_is = let cap : length kept + 2 * count_by (λ r. is_out r.stage) kept ≤ capacity =
          k.capacity_is in omega (arith, c, one, cap, same);
      outs = omega (arith, c, one, outs);
      size = omega (arith, c, one, outs, size, same);
      budget = omega (arith, budget);
      few = k.few;
      gap_some = k.gap_some;
      gap_few = k.gap_few;
    }

pub has_record : (p : Program) (past : List Entry) (kept : List Record) (i : ℕ)
    → AreRecords p past kept → i < length kept → (r : Record) × (slice_get kept i ≡ Some r)
has_record p past kept i rs h = some_at kept i h
  where
    some_at : (xs : List Record) (i : ℕ) → i < length xs → (r : Record) × (slice_get xs i ≡ Some r)
    some_at [] i h = absurd (omega arith)
    some_at (x ∷ xs) zero h = (x, refl)
    some_at (x ∷ xs) (suc i) h = some_at xs i (omega arith)

-- the record's tests are those of the node
pub waits_same : (p : Program) (s : Settings) (past : List Entry) (i : ℕ) (r : Record)
    (cutoff : Option ℤ) → cutoff ≡ cutoff_for p s past → IsRecordOf p past i r → waits cutoff r
    ≡ waits_live p s past i
waits_same p s past i r cutoff b f =
    let w : is_waiting r.stage ≡ is_waiting (state_of past i) = ap is_waiting f.stage in
    let v : is_below r.low cutoff ≡ is_below (node_at p past i).low (cutoff_for p s past) =
    ap (λ o. is_below r.low o) b ∙ ap (λ n. is_below n (cutoff_for p s past)) f.low in
    let h : r.has_point ≡ has_point (full_of p past i).lows (full_of p past i).highs =
    f.has_point in
    cc

any_below-same : (f g : ℕ → Bool) (n : ℕ) → ((i : ℕ) → i < n → f i ≡ g i) → any_below f n
    ≡ any_below g n
any_below-same f g zero h = refl
any_below-same f g (suc n) h =
    let ih : any_below f n ≡ any_below g n = any_below-same f g n (λ i k. h i (omega (arith, k))) in
    let e : f n ≡ g n = h n (omega arith) in cc

pub any_out_same : (p : Program) (past : List Entry) (kept : List Record) → AreRecords p past kept
    → any_below (λ i. is_out_if (slice_get kept i)) (length kept) ≡ any_out p past
any_out_same p past kept rs =
    any_below-same (λ i. is_out_if (slice_get kept i)) (λ id. is_out (state_of past id))
    (length kept)
    (λ i hi. let x = has_record p past kept i rs hi in ap is_out_if x.1
    ∙ ap is_out (rs.each i x.0 x.1).stage)
    ∙ ap (any_below (λ id. is_out (state_of past id))) rs.count

pub kept_take : (p : Program) (s : Settings) (past : List Entry)
    (room room' capacity capacity' : ℕ) (kept : List Record) (taken : ℕ) (best : Option ℤ)
    (id seat : ℕ) (r : Record)
    → IsKept p s past room capacity kept taken best → take_reply p s past ≡ gives id
    → slice_get kept id ≡ Some r → taken < s.nodes → count_by (λ r. is_out r.stage) kept + 1 ≤ room'
    → length kept + 2 * (count_by (λ r. is_out r.stage) kept + 1) ≤ capacity'
    → IsKept p s (Take seat id ∷ past) room' capacity'
    (slice_set kept id (record r { stage = out seat })) (taken + 1) best
kept_take p s past room room' capacity capacity' kept taken best id seat r k t e left fits holds =
    let g = take_gives p s past id t in
    let waits : state_of past id ≡ waiting = is_waiting-is (state_of past id) g.waits in
    let was : is_out r.stage ≡ false = ap is_out ((k.records.each id r e).stage ∙ waits) in
    let none : one_if (is_out r.stage) ≡ 0 = ap one_if was in
    let c = count_by-set (λ (q : Record). is_out q.stage) kept id (record r { stage = out seat })
    r e in
    let outs : count_by (λ r. is_out r.stage) kept ≤ taken = k.outs in
    let size : length kept + 2 * count_by (λ r. is_out r.stage) kept ≤ 2 * taken + 1 = k.size in
    let same : length (slice_set kept id (record r { stage = out seat })) ≡ length kept =
    length-set kept id (record r { stage = out seat }) in
    record {
      legal = (t, k.legal);
      span_some = k.span_some;
      span_few = k.span_few;
      storage = stored_stage p s past (Take seat id ∷ past) kept id r (out seat) refl (λ j. refl)
          (λ q ne. state_kept q id (state_of past q) (out seat) (λ h. ne (sym h)))
          (ap is_freed (cond-true (id == id) (out seat) (state_of past id) (eq-eqb id id refl)))
          (ap is_freed waits)
          (ap was_parted ((k.records.each id r e).stage ∙ waits)) k.storage e;
      records = records_set p past (Take seat id ∷ past) kept id r (record r { stage = out seat })
          (same_box r (out seat)) refl
          (sym (cond-true (id == id) (out seat) (state_of past id) (eq-eqb id id refl)))
          (λ q ne. state_kept q id (state_of past q) (out seat) (λ h. ne (sym h)))
          k.records e;
      used = ap (λ n. n + 1) k.used;
      best_is = k.best_is;
      room_is = omega (arith, c, none, fits);
      capacity_is = omega (arith, c, none, holds, same);
      outs = omega (arith, c, none, outs);
      size = omega (arith, c, none, size, same);
      budget = omega (arith, left);
      few = k.few;
      gap_some = k.gap_some;
      gap_few = k.gap_few;
    }

-- the reply, by the next node
pub kept_reply : (p : Program) (s : Settings) (past : List Entry) (room capacity : ℕ)
    (kept : List Record) (taken : ℕ) (best : Option ℤ) → IsKept p s past room capacity kept taken
    best
    → (first : Option ℕ) → first ≡ next_of p s past → take_reply p s past
    ≡ reply_for first (nat_lt taken s.nodes) (any_out p past)
unfolding take_reply
kept_reply p s past room capacity kept taken best k first a =
    let d : taken ≡ used_of past = k.used in
    cc

pub kept_next : (p : Program) (s : Settings) (history : List Entry) (room capacity : ℕ)
    (kept : List Record) (taken : ℕ) (best : Option ℤ) (t : TreeView)
    → IsKept p s (reverse history) room capacity kept taken best
    → (record { problem = p; settings = s; history = history }) ≡ t → (first : Option ℕ) → first
    ≡ next_of t.problem t.settings (past_of t)
    → take_reply p s (reverse history)
    ≡ reply_for first (nat_lt taken s.nodes) (any_out p (reverse history))
kept_next p s history room capacity kept taken best t k view first is =
    kept_reply p s (reverse history) room capacity kept taken best k first
    (is ∙ ap (λ (v : TreeView). next_of v.problem v.settings (past_of v)) (sym view))

-- more room
pub kept_room : (p : Program) (s : Settings) (past : List Entry)
    (room room' capacity capacity' : ℕ) (kept : List Record) (taken : ℕ) (best : Option ℤ)
    → IsKept p s past room capacity kept taken best
    → room ≤ room' → capacity ≤ capacity' → IsKept p s past room' capacity' kept taken best
kept_room p s past room room' capacity capacity' kept taken best k more wider =
    let r : count_by (λ r. is_out r.stage) kept ≤ room = k.room_is in
    record {
      legal = k.legal;
      span_some = k.span_some;
      span_few = k.span_few;
      storage =
          k.storage;
      records = k.records;
      used = k.used;
      best_is = k.best_is;
      room_is =
          omega (arith, r, more);
      capacity_is = let cap : length kept + 2 * count_by
          (λ r. is_out r.stage) kept ≤ capacity = k.capacity_is in omega (arith, cap, wider);
      outs =
          k.outs;
      size = k.size;
      budget = k.budget;
      few = k.few;
      gap_some = k.gap_some;
      gap_few =
          k.gap_few;
    }

-- pieces that stay as they were give the same chain
pub chain_along-same : (p : Program) (s : Settings) (past past' : List Entry)
    → ((k : ℕ) → stored_of p s past' k ≡ stored_of p s past k)
    → (ids : List ℕ) (chain : List (Piece Cut))
    → chain_along p s past' chain ids ≡ chain_along p s past chain ids
chain_along-same p s past past' same [] chain = refl
chain_along-same p s past past' same (i ∷ ids) chain =
    ap (λ (q : Piece Cut). chain_along p s past' (chained chain q) ids) (same i)
    ∙ chain_along-same p s past past' same ids (chained chain (stored_of p s past i))

-- the lease of a node that was just taken
pub taken_lease : (p : Program) (s : Settings) (history : List Entry) (kept : List Record)
    (cutoff : Option ℤ) (id seat : ℕ) (r : Record) (chain : List (Piece Cut))
    → AreRecords p (reverse history) kept → cutoff ≡ cutoff_for p s (reverse history)
    → slice_get kept id ≡ Some r
    → chain ≡ chain_of p s (reverse history) id → rebuilt chain
    ≡ Some (full_of p (reverse history) id)
    → take_reply p s (reverse history) ≡ gives id
    → IsTaken (record { problem = p; settings = s; history = history }) seat
    (record { id = id; depth = r.depth; low = r.low; cutoff = cutoff; chain = chain })
    (record { problem = p; settings = s; history = history ++ Take seat id ∷ [] })
taken_lease p s history kept cutoff id seat r chain rs b e is rebuilds t =
    let past : List Entry = reverse history in
    let f = rs.each id r e in
    let self : (id == id) ≡ true = eq-eqb id id refl in
    let turned : reverse (history ++ Take seat id ∷ []) ≡ Take seat id ∷ past =
    reverse-push history (Take seat id) in
    let o : state_of (Take seat id ∷ past) id ≡ out seat =
    cond-true (id == id) (out seat) (state_of past id) self in
    let c : cutoff ≡ cutoff_of p s (Take seat id ∷ past) id =
    b ∙ sym (cond-true (id == id) (cutoff_for p s past) (cutoff_of p s past id) self) in
    let ch : chain ≡ chain_of p s (Take seat id ∷ past) id =
    is ∙ sym (chain_along-same p s past (Take seat id ∷ past) (λ k. refl)
    ((node_at p past id).ancestors ++ id ∷ []) []) in
    record {
      reply = t;
      entry = refl;
      leased = record {
        is_out = ap (λ h. state_of h id) turned ∙ o;
        depth = f.depth ∙ ap (λ h. (node_at p h id).depth) (sym turned);
        low = f.low ∙ ap (λ h. (node_at p h id).low) (sym turned);
        cutoff = c ∙ ap (λ h. cutoff_of p s h id) (sym turned);
        chain = rebuilds ∙ ap (λ h. Some (full_of p h id)) (sym turned);
      };
      chain = ch ∙ ap (λ h. chain_of p s h id) (sym turned);
    }

pub IsTaken-moved : {old old' new new' : TreeView} {lease lease' : LeaseView} {seat : ℕ} → old
    ≡ old' → lease ≡ lease' → new ≡ new' → IsTaken old seat lease new
    → IsTaken old' seat lease' new'
IsTaken-moved {old} {old'} {new} {new'} {lease} {lease'} {seat} a b d t =
    subst (λ (o : TreeView). IsTaken o seat lease' new') a
    (subst (λ (m : LeaseView). IsTaken old seat m new') b
    (subst (λ (n : TreeView). IsTaken old seat lease n) d t))
