-- How a search ends.
use Rattle.std.proofs.Common.{◌≡◌, ℕ, zero, suc, ◌+◌, ◌-◌, ◌*◌, ◌<◌, ◌≤◌, List, [], ◌∷◌, length}
use Rattle.std.proofs.Common.{refl, ap, sym, ◌∙◌, subst, arith, Bool, true, false, cond, Some}
use Rattle.std.proofs.Common.{None, Option, inl, inr}
use Rattle.std.specs.Prelude.{◌&&◌, ◌||◌, filter, nat_lt, pos, ◌-ℤ◌, int_lt}
use Rattle.std.proofs.lemmas.Bool.{and_parts, cases_lt, true≢false, lt-ltb, le-ltb}
use Rattle.bl_problem.specs.Program.{Program}
use Rattle.bl_problem.specs.Points.{own_lows, own_highs, points_in}
use Rattle.bl_journal.specs.declared.entry.Entry.{Entry}
use Rattle.bl_journal.specs.declared.entry.Entry.TheVariants.{Take, Put, Back, Encode, Free}
use Rattle.bl_journal.specs.declared.settings.Settings.{Settings}
use Rattle.bl_journal.specs.Births.{nodes_of, node_at}
use Rattle.bl_journal.specs.Descriptions.{full_of}
use Rattle.bl_journal.specs.States.{state_of, is_open, is_live, is_live_in, is_below, cutoff_for}
use Rattle.bl_journal.specs.States.{best_of, used_of, has_point, Found}
use Rattle.bl_journal.specs.declared.state.State.{State}
use Rattle.bl_journal.specs.declared.state.State.TheVariants.{Waiting as waiting, Out as out}
use Rattle.bl_journal.specs.declared.state.State.TheVariants.{Split as split, Shut as shut}
use Rattle.bl_journal.specs.declared.state.State.TheVariants.{Freed as freed}
use Rattle.bl_journal.specs.Replies.{take_reply, reply_for, next_of, first_below, preferred}
use Rattle.bl_journal.specs.Replies.{any_below, any_out, waits_live, is_waiting, is_out, ids_of}
use Rattle.bl_journal.specs.Replies.{gives, done, spent}
use Rattle.bl_journal.specs.Legality.{IsAllowed, IsLegalPast}
use Rattle.bl_journal.specs.Results.{HasNoLive, IsSpent, IsFinal, answer_of, answer_for, final}
use Rattle.bl_journal.specs.Results.{within, optimal, live_ids, lows_of, share_in, room_of}
use Rattle.bl_journal.specs.Results.{node_points}
use Rattle.bl_journal.proofs.Living.{first_below_holds, each_past, Each, Each-ids}
use Rattle.bl_journal.proofs.Leaves.{by_test as by_choice, is_waiting-is}
use Rattle.bl_journal.proofs.Sums.{total, sum_ids, total-at}
use Rattle.bl_journal.proofs.Budget.{has_point-points, within_budget}

-- where none is first, none is fit
pub first_below_none : (before : ℕ → ℕ → Bool) (fit : ℕ → Bool) (n i : ℕ)
    → first_below before fit n ≡ None → i < n → fit i ≡ false
first_below_none before fit zero i e h = absurd (omega (arith, h))
first_below_none before fit (suc n) i e h =
    by_fit (fit n) refl e (λ f c. first_below_none before fit n i f c)
  where
    some : (o : Option ℕ) → preferred before o n ≡ None → ⊥
    some None f = cc
    some (Some k) f = pick (before n k) f
      where
        pick : (b : Bool) → cond b (Some n) (Some k) ≡ None → ⊥
        pick true g = cc
        pick false g = cc

    by_fit : (b : Bool) → fit n ≡ b → cond b (preferred before (first_below before fit n) n)
        (first_below before fit n) ≡ None
        → (first_below before fit n ≡ None → i < n → fit i ≡ false) → fit i ≡ false
    by_fit true t f ih = absurd (some (first_below before fit n) f)
    by_fit false t f ih =
        elim (cases_lt i n) [
          | inl c ↦ ih f c
          | inr c ↦ let s : n ≡ i = omega (arith, h, c) in subst (λ (k : ℕ). fit k ≡ false) s t
        ]

pub any_below_none : (test : ℕ → Bool) (n i : ℕ) → any_below test n ≡ false → i < n → test i ≡ false
any_below_none test zero i e h = absurd (omega (arith, h))
any_below_none test (suc n) i e h =
    by_parts (any_below test n) (test n) refl refl e (λ f c. any_below_none test n i f c)
  where
    by_parts : (a b : Bool) → any_below test n ≡ a → test n ≡ b → (a || b) ≡ false
        → (any_below test n ≡ false → i < n → test i ≡ false) → test i ≡ false
    by_parts true b p q f ih = absurd (true≢false f)
    by_parts false true p q f ih = absurd (true≢false f)
    by_parts false false p q f ih =
        elim (cases_lt i n) [
          | inl c ↦ ih p c
          | inr c ↦ let s : n ≡ i = omega (arith, h, c) in subst (λ (k : ℕ). test k ≡ false) s q
        ]

-- what the reply says of its parts
reply_done : (o : Option ℕ) (left someone : Bool) → reply_for o left someone ≡ done → (o ≡ None)
    × (someone ≡ false)
reply_done None left false e = (refl, refl)
reply_done None left true e = cc
reply_done (Some i) true someone e = cc
reply_done (Some i) false someone e = cc

reply_spent : (o : Option ℕ) (left someone : Bool) → reply_for o left someone ≡ spent → (id : ℕ)
    × (o ≡ Some id) × (left ≡ false)
reply_spent None left false e = cc
reply_spent None left true e = cc
reply_spent (Some i) true someone e = cc
reply_spent (Some i) false someone e = (i, refl, refl)

pub reply_gives : (o : Option ℕ) (left someone : Bool) (i : ℕ) → reply_for o left someone
    ≡ gives i → left ≡ true
reply_gives None false true i e = cc
reply_gives None true true i e = cc
reply_gives None false false i e = cc
reply_gives None true false i e = cc
reply_gives (Some j) true someone i e = refl
reply_gives (Some j) false someone i e = cc

pub done_ends : (p : Program) (s : Settings) (past : List Entry) → take_reply p s past ≡ done
    → HasNoLive p s past
unfolding take_reply
done_ends p s past e = λ id born.
    let r = reply_done (next_of p s past) (nat_lt (used_of past) s.nodes) (any_out p past) e in
    let w : waits_live p s past id ≡ false =
    first_below_none _ (waits_live p s past) (length (nodes_of p past)) id r.0 born in
    let o : is_out (state_of past id) ≡ false =
    any_below_none (λ k. is_out (state_of past k)) (length (nodes_of p past)) id r.1 born in
    by_state (state_of past id) (is_open p s past id) w o
  where
    by_state : (t : State) (b : Bool) → (is_waiting t && b) ≡ false → is_out t ≡ false
        → is_live_in t b ≡ false
    by_state waiting b w o = w
    by_state (out seat) b w o = absurd (true≢false o)
    by_state split b w o = refl
    by_state shut b w o = refl
    by_state freed b w o = refl

filter_none : (test : ℕ → Bool) (n : ℕ) (ids : List ℕ) → Each (λ i. i < n) ids
    → ((i : ℕ) → i < n → test i ≡ false) → filter test ids ≡ []
filter_none test n [] a h = refl
filter_none test n (i ∷ ids) a h = by_test (test i) (h i a.0) (filter_none test n ids a.1 h)
  where
    by_test : (b : Bool) → b ≡ false → filter test ids ≡ []
        → cond b (i ∷ filter test ids) (filter test ids) ≡ []
    by_test true e ih = absurd (true≢false e)
    by_test false e ih = ih

pub done_is_final : (p : Program) (s : Settings) (past : List Entry) → take_reply p s past ≡ done
    → IsFinal (answer_of p s past)
unfolding answer_of
done_is_final p s past e =
    let none : live_ids p s past ≡ [] = filter_none (is_live p s past) (length (nodes_of p past))
    (ids_of p past) (Each-ids (length (nodes_of p past))) (done_ends p s past e) in
    subst (λ (ids : List ℕ). IsFinal (answer_for s.gap (best_of p past) (lows_of p past ids)))
    (sym none) (by_best (best_of p past))
  where
    by_best : (o : Option Found) → IsFinal (final s.gap o)
    by_best None = tt
    by_best (Some f) = by_choice IsFinal (int_lt (pos 0) s.gap) (within f (f.value -ℤ s.gap))
        (optimal f) (λ _. tt) (λ _. tt)

-- no more nodes are used than may be
pub used_within : (p : Program) (s : Settings) (past : List Entry) → IsLegalPast p s past
    → used_of past ≤ s.nodes
unfolding take_reply
used_within p s = each_past p s (λ past. used_of past ≤ s.nodes) (omega arith) step
  where
    step : (past : List Entry) (e : Entry) → IsLegalPast p s past → IsAllowed p s past e
        → used_of past ≤ s.nodes → used_of (e ∷ past) ≤ s.nodes
    step past (Take seat id) l a ih =
        let t : nat_lt (used_of past) s.nodes ≡ true =
        reply_gives (next_of p s past) (nat_lt (used_of past) s.nodes) (any_out p past) id a in
        elim (cases_lt (used_of past) s.nodes) [
          | inl h ↦ omega (arith, h)
          | inr h ↦ absurd (true≢false (sym t ∙ le-ltb (used_of past) s.nodes h))
        ]
    step past (Put seat id found low next) l a ih = ih
    step past (Back seat id) l a ih = omega (arith, ih)
    step past (Encode seat id form) l a ih = ih
    step past (Free seat ids) l a ih = ih

pub spent_ends : (p : Program) (s : Settings) (past : List Entry) → IsLegalPast p s past
    → take_reply p s past ≡ spent → IsSpent p s past
unfolding take_reply
spent_ends p s past l e =
    let r = reply_spent (next_of p s past) (nat_lt (used_of past) s.nodes) (any_out p past) e in
    let f = first_below_holds _ (waits_live p s past) (length (nodes_of p past)) r.0 r.1 in
    let within : used_of past ≤ s.nodes = used_within p s past l in
    record {
      all_used =
          elim (cases_lt (used_of past) s.nodes) [
            | inl h ↦ let t : nat_lt (used_of past) s.nodes ≡ true =
                lt-ltb (used_of past) s.nodes h in absurd (true≢false (sym t ∙ r.2))
            | inr h ↦ omega (arith, h, within)
          ];
      id = r.0;
      born = f.0;
      waits = f.1;
    }

-- a search that ends for want of nodes had fewer than twice the points less 1
pub spent_is_short : (p : Program) (s : Settings) (past : List Entry) → IsLegalPast p s past
    → take_reply p s past ≡ spent → s.nodes + 2 ≤ 2 * points_in (own_lows p) (own_highs p)
spent_is_short p s past l e =
    let sp = spent_ends p s past l e in
    let parts = and_parts (is_waiting (state_of past sp.id)) (is_open p s past sp.id) sp.waits in
    let st : state_of past sp.id ≡ waiting = is_waiting-is (state_of past sp.id) parts.0 in
    let some : 0 < node_points p past sp.id =
    has_point-points (full_of p past sp.id).lows (full_of p past sp.id).highs
    (and_parts (has_point (full_of p past sp.id).lows (full_of p past sp.id).highs)
    (is_below (node_at p past sp.id).low (cutoff_for p s past)) parts.1).0 in
    let share : ℕ → ℕ = λ id. share_in (state_of past id) (is_open p s past id)
    (node_points p past id) in
    let mine : share sp.id ≡ 2 * node_points p past sp.id - 1 =
    ap (λ (t : State). share_in t (is_open p s past sp.id) (node_points p past sp.id)) st
    ∙ ap (λ (b : Bool). share_in waiting b (node_points p past sp.id)) parts.1 in
    let below : share sp.id ≤ total share (length (nodes_of p past)) =
    total-at share (length (nodes_of p past)) sp.id sp.born in
    let room : room_of p s past ≡ total share (length (nodes_of p past)) =
    sum_ids share (length (nodes_of p past)) in
    let within : used_of past + room_of p s past ≤ 2 * points_in (own_lows p) (own_highs p) - 1 =
    within_budget p s past l in
    let used : used_of past ≡ s.nodes = sp.all_used in
    omega (arith, some, mine, below, room, within, used)
