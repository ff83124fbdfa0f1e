-- How a search of many seats ends. A history is read backward here: its last entry comes first.
use Rattle.std.proofs.Common.{◌≡◌, ◌≢◌, ℕ, zero, suc, List, [], ◌∷◌, ◌++◌, length, refl, ap, sym}
use Rattle.std.proofs.Common.{◌∙◌, arith, Bool, true, false, cond, Option, Some, None, inl, inr}
use Rattle.std.proofs.Common.{◌⊎◌, ◌<◌, ◌≤◌, All, append-nil, get_or}
use Rattle.std.specs.Prelude.{◌==◌, nat_lt, reverse}
use Rattle.std.proofs.lemmas.Bool.{and_parts, eq-eqb, true≢false, le-ltb, ne_eqb, cases_lt}
use Rattle.bl_mods.specs.Mods.{is_among}
use Rattle.bl_problem.specs.Program.{Program}
use Rattle.bl_journal.specs.declared.entry.Entry.{Entry}
use Rattle.bl_journal.specs.declared.entry.Entry.TheVariants.{Take, Put, Back, Encode, Free}
use Rattle.bl_journal.specs.declared.settings.Settings.{Settings}
use Rattle.bl_journal.specs.Births.{nodes_of}
use Rattle.bl_journal.specs.States.{state_of, put_state, is_open, is_live, is_live_in, used_of}
use Rattle.bl_journal.specs.declared.state.State.{State}
use Rattle.bl_journal.specs.declared.state.State.TheVariants.{Waiting as waiting, Out as out}
use Rattle.bl_journal.specs.declared.state.State.TheVariants.{Split as split, Shut as shut}
use Rattle.bl_journal.specs.declared.state.State.TheVariants.{Freed as freed}
use Rattle.bl_journal.specs.Replies.{take_reply, reply_for, next_of, first_below, any_below}
use Rattle.bl_journal.specs.Replies.{any_out, waits_live, is_waiting, is_out, done, spent}
use Rattle.bl_journal.specs.Legality.{seat_of, IsAllowed, IsLegalPast}
use Rattle.bl_journal.specs.Results.{HasNoLive}
use Rattle.bl_journal.proofs.Living.{Each, Each-any, each_from, each_past, take_gives}
use Rattle.bl_journal.proofs.Living.{first_below_holds}
use Rattle.bl_journal.proofs.Ends.{reply_gives, done_ends, spent_ends}
use Rattle.bl_journal.proofs.Leaves.{by_test, shape, out_born, out_before, is_waiting-is}
use Rattle.bl_journal.specs.Seats.{entries_of, is_back, IsOver, NoneOf}
use Rattle.bl_journal.proofs.Others.{legal_past, out_stays_once, All-reverse}
use Rattle.std.proofs.lemmas.List.{reverse-append}
use Rattle.std.proofs.lemmas.List.Elements.{filter-append, All-head, All-tail}

-- an entry of another makes no node be out with the seat
was_out : (past : List Entry) (e : Entry) (id seat : ℕ) → seat_of e ≢ seat
    → state_of (e ∷ past) id ≡ out seat → state_of past id ≡ out seat
was_out past e id seat other o =
    elim (out_before past e id seat o) [
      | inl is ↦ absurd (other (ap seat_of is))
      | inr before ↦ before
    ]

alike : (b : Bool) (new old own : State) (seat : ℕ) → (old ≡ out seat → own ≡ out seat)
    → cond b new old ≡ out seat → cond b new own ≡ out seat
alike true new old own seat ih k = k
alike false new old own seat ih k = ih k

-- the same entry does the same to a node that is out in two histories
out_alike : (past own : List Entry) (e : Entry) (id seat : ℕ)
    → (state_of past id ≡ out seat → state_of own id ≡ out seat) → state_of (e ∷ past) id
    ≡ out seat → state_of (e ∷ own) id ≡ out seat
out_alike past own (Take t i) id seat ih o =
    alike (i == id) (out t) (state_of past id) (state_of own id) seat ih o
out_alike past own (Put t i found low next) id seat ih o =
    alike (i == id) (put_state next) (state_of past id) (state_of own id) seat ih o
out_alike past own (Back t i) id seat ih o =
    alike (i == id) waiting (state_of past id) (state_of own id) seat ih o
out_alike past own (Encode t i form) id seat ih o = ih o
out_alike past own (Free t ids) id seat ih o =
    alike (is_among id ids) freed (state_of past id) (state_of own id) seat ih o

-- a node is out with a seat only where the seat's own entries say so
pub out_by_own : (past : List Entry) (id seat : ℕ) → state_of past id ≡ out seat
    → state_of (entries_of seat past) id ≡ out seat
out_by_own [] id seat o = o
out_by_own (e ∷ past) id seat o =
    by_test (λ es. state_of es id ≡ out seat) (seat_of e == seat) (e ∷ entries_of seat past)
    (entries_of seat past)
    (λ _. out_alike past (entries_of seat past) e id seat (out_by_own past id seat) o)
    (λ f. out_by_own past id seat (was_out past e id seat
    (λ same. true≢false (sym (eq-eqb (seat_of e) seat same) ∙ f)) o))

-- and in a legal history it is out with the seat where they do
pub out_as_own : (p : Program) (s : Settings) (past : List Entry) (id seat : ℕ)
    → IsLegalPast p s past → state_of (entries_of seat past) id ≡ out seat → state_of past id
    ≡ out seat
out_as_own p s past id seat =
    each_past p s (λ h. state_of (entries_of seat h) id ≡ out seat → state_of h id ≡ out seat)
    (λ o. o) (λ h e l a ih.
    by_test (λ es. state_of es id ≡ out seat → state_of (e ∷ h) id ≡ out seat) (seat_of e == seat)
    (e ∷ entries_of seat h) (entries_of seat h)
    (λ _. out_alike (entries_of seat h) h e id seat ih)
    (λ f o. out_stays_once p s h e id seat l a
    (λ same. true≢false (sym (eq-eqb (seat_of e) seat same) ∙ f)) (ih o))) past

-- no entry leaves a node out
pub none_out_if : (past : List Entry) → ((id seat : ℕ) → state_of past id ≡ out seat → ⊥)
    → (id : ℕ) → is_out (state_of past id) ≡ false
none_out_if past none id = by_state (state_of past id) refl
  where
    by_state : (st : State) → state_of past id ≡ st → is_out st ≡ false
    by_state waiting e = refl
    by_state (out seat) e = absurd (none id seat e)
    by_state split e = refl
    by_state shut e = refl
    by_state freed e = refl

-- where no node is out by any seat's own entries, none is out
pub none_out_by_own : (past : List Entry)
    → ((id seat : ℕ) → state_of (entries_of seat past) id ≡ out seat → ⊥) → (id : ℕ)
    → is_out (state_of past id) ≡ false
none_out_by_own past none = none_out_if past (λ id seat o. none id seat (out_by_own past id seat o))

-- a node that is born and live is none where none is live
live_waits : (p : Program) (s : Settings) (past : List Entry) (i : ℕ) → state_of past i ≡ waiting
    → is_open p s past i ≡ true → is_live p s past i ≡ true
live_waits p s past i w o = ap (λ st. is_live_in st (is_open p s past i)) w ∙ o

live_out : (p : Program) (s : Settings) (past : List Entry) (i seat : ℕ) → state_of past i
    ≡ out seat → is_live p s past i ≡ true
live_out p s past i seat o = ap (λ st. is_live_in st (is_open p s past i)) o

-- Where no node is live none can be taken, put or given back, and so none is ever live again
stays_done_once : (p : Program) (s : Settings) (past : List Entry) (e : Entry)
    → IsLegalPast p s past → IsAllowed p s past e → HasNoLive p s past → HasNoLive p s (e ∷ past)
stays_done_once p s past (Take t i) l a none =
    let g = take_gives p s past i a in
    absurd (true≢false
    (sym (live_waits p s past i (is_waiting-is (state_of past i) g.waits) g.open_node)
    ∙ none i g.born))
stays_done_once p s past (Put t i found low next) l a none =
    absurd (true≢false (sym (live_out p s past i t a.is_out)
    ∙ none i (out_born p past i t (shape p s past l) a.is_out)))
stays_done_once p s past (Back t i) l a none =
    absurd (true≢false (sym (live_out p s past i t a)
    ∙ none i (out_born p past i t (shape p s past l) a)))
stays_done_once p s past (Encode t i form) l a none = none
stays_done_once p s past (Free t ids) l a none =
    λ id born. by_test (λ st. is_live_in st (is_open p s past id) ≡ false) (is_among id ids) freed
    (state_of past id) (λ _. refl) (λ _. none id born)

pub stays_done : (p : Program) (s : Settings) (more past : List Entry)
    → IsLegalPast p s (more ++ past) → HasNoLive p s past → HasNoLive p s (more ++ past)
stays_done p s more past l none =
    each_from p s (λ _. Unit {0}) (HasNoLive p s) past none
    (λ h e lh a _ n. stays_done_once p s h e lh a n) more (Each-any more) l

-- Where as many nodes are used as may be, none is taken, and so they stay used until one is
-- given back
pub stays_spent : (p : Program) (s : Settings) (more past : List Entry)
    → IsLegalPast p s (more ++ past) → Each (λ e. is_back e ≡ false) more → used_of past ≡ s.nodes
    → used_of (more ++ past) ≡ s.nodes
unfolding take_reply
stays_spent p s more past l none used =
    each_from p s (λ e. is_back e ≡ false) (λ h. used_of h ≡ s.nodes) past used step more none l
  where
    step : (h : List Entry) (e : Entry) → IsLegalPast p s h → IsAllowed p s h e → is_back e
        ≡ false → used_of h ≡ s.nodes → used_of (e ∷ h) ≡ s.nodes
    step h (Take t i) lh a b now =
        let left : nat_lt (used_of h) s.nodes ≡ true =
        reply_gives (next_of p s h) (nat_lt (used_of h) s.nodes) (any_out p h) i a in
        absurd (true≢false (sym left ∙ le-ltb (used_of h) s.nodes (omega (arith, now))))
    step h (Put t i found low next) lh a b now = now
    step h (Back t i) lh a b now = absurd (true≢false b)
    step h (Encode t i form) lh a b now = now
    step h (Free t ids) lh a b now = now

nothing_out : (test : ℕ → Bool) (n : ℕ) → ((i : ℕ) → test i ≡ false) → any_below test n ≡ false
nothing_out test zero h = refl
nothing_out test (suc n) h = let ih : any_below test n ≡ false =
    nothing_out test n h in let e : test n ≡ false = h n in cc

by_used : (o : Option ℕ) (left someone : Bool) → left ≡ false → someone ≡ false
    → (reply_for o left someone ≡ done) ⊎ (reply_for o left someone ≡ spent)
by_used None left true l f = absurd (true≢false f)
by_used None left false l f = inl refl
by_used (Some i) true someone l f = absurd (true≢false l)
by_used (Some i) false someone l f = inr refl

-- where no node is out and as many are used as may be
pub over_spent : (p : Program) (s : Settings) (past : List Entry)
    → ((id : ℕ) → is_out (state_of past id) ≡ false) → used_of past ≡ s.nodes → IsOver p s past
unfolding take_reply
over_spent p s past none used =
    by_used (next_of p s past) (nat_lt (used_of past) s.nodes) (any_out p past)
    (le-ltb (used_of past) s.nodes (omega (arith, used)))
    (nothing_out (λ id. is_out (state_of past id)) (length (nodes_of p past)) none)

by_none : (p : Program) (s : Settings) (past : List Entry) (before : ℕ → ℕ → Bool) (o : Option ℕ)
    (left someone : Bool) → first_below before (waits_live p s past) (length (nodes_of p past))
    ≡ o → HasNoLive p s past → someone ≡ false → reply_for o left someone ≡ done
by_none p s past before None left true e none f = absurd (true≢false f)
by_none p s past before None left false e none f = refl
by_none p s past before (Some i) left someone e none f =
    let w = first_below_holds before (waits_live p s past) (length (nodes_of p past)) i e in
    let parts = and_parts (is_waiting (state_of past i)) (is_open p s past i) w.1 in
    absurd (true≢false
    (sym (live_waits p s past i (is_waiting-is (state_of past i) parts.0) parts.1)
    ∙ none i w.0))

-- where no node is out and none is live
pub over_done : (p : Program) (s : Settings) (past : List Entry)
    → ((id : ℕ) → is_out (state_of past id) ≡ false) → HasNoLive p s past → take_reply p s past
    ≡ done
unfolding take_reply
over_done p s past none_out none =
    by_none p s past _ (next_of p s past) (nat_lt (used_of past) s.nodes) (any_out p past) refl none
    (nothing_out (λ id. is_out (state_of past id)) (length (nodes_of p past)) none_out)

-- A search is over at the end, where no node is out and some take was answered Done, or some
-- take was answered Spent and no node was given back since
pub ends_over : (p : Program) (s : Settings) (more past : List Entry)
    → IsLegalPast p s (more ++ past) → ((id : ℕ) → is_out (state_of (more ++ past) id) ≡ false)
    → Each (λ e. is_back e ≡ false) more → IsOver p s past → IsOver p s (more ++ past)
ends_over p s more past l none_out no_back over =
    elim over [
      | inl e ↦ inl (over_done p s (more ++ past) none_out
          (stays_done p s more past l (done_ends p s past e)))
      | inr e ↦ over_spent p s (more ++ past) none_out
          (stays_spent p s more past l no_back
          (spent_ends p s past (legal_past p s more past l) e).all_used)
    ]

-- the entries of one seat, in parts of a list
entries_of-append : (seat : ℕ) (xs ys : List Entry) → entries_of seat (xs ++ ys)
    ≡ entries_of seat xs ++ entries_of seat ys
entries_of-append seat xs ys = filter-append (λ e. seat_of e == seat) xs ys

entries_of-none : (seat : ℕ) (es : List Entry) → NoneOf seat es → entries_of seat es ≡ []
entries_of-none seat [] none = refl
entries_of-none seat (e ∷ es) none =
    let other : (seat_of e == seat) ≡ false =
    ne_eqb (seat_of e) seat (All-head (λ x. seat_of x ≢ seat) e es none) in
    rw other (entries_of-none seat es (All-tail (λ x. seat_of x ≢ seat) e es none))

-- the entries of a seat in a list turned around
pub entries_of-reverse : (n : ℕ) (es : List Entry) → entries_of n (reverse es)
    ≡ reverse (entries_of n es)
entries_of-reverse n [] = refl
entries_of-reverse n (e ∷ es) =
    ap (entries_of n) (reverse-append (e ∷ []) es)
    ∙ (entries_of-append n (reverse es) (e ∷ [])
    ∙ (ap (λ l. l ++ entries_of n (e ∷ [])) (entries_of-reverse n es) ∙ by_seat (seat_of e == n)))
  where
    by_seat : (b : Bool) → reverse (entries_of n es) ++ cond b (e ∷ []) []
        ≡ reverse (cond b (e ∷ entries_of n es) (entries_of n es))
    by_seat true = sym (reverse-append (e ∷ []) (entries_of n es))
    by_seat false = append-nil (reverse (entries_of n es))

-- where each seat's own entries leave no node out, none is out
pub none_out_at_end : (history : List Entry) (n : ℕ) → All (λ e. seat_of e ≤ n) history
    → ((k : ℕ) → k ≤ n → (id : ℕ) → is_out (state_of (reverse (entries_of k history)) id) ≡ false)
    → (id : ℕ) → is_out (state_of (reverse history) id) ≡ false
none_out_at_end history n few holds =
    none_out_by_own (reverse history) (λ id k o. by_number id k o (cases_lt n k))
  where
    others : (k : ℕ) → n < k → NoneOf k (reverse history)
    others k more = All-reverse (λ e. seat_of e ≢ k) history
        (λ i d h. let le : seat_of (get_or history i d) ≤ n =
        few i d h in λ same. absurd (omega (arith, le, same, more)))

    by_number : (id k : ℕ) → state_of (entries_of k (reverse history)) id ≡ out k → (n < k)
        ⊎ (k ≤ n) → ⊥
    by_number id k o (inl more) =
        let none : waiting ≡ out k = sym
        (ap (λ l. state_of l id) (entries_of-none k (reverse history) (others k more)))
        ∙ o in cc
    by_number id k o (inr some) =
        true≢false
        (sym (ap is_out (sym (ap (λ l. state_of l id) (entries_of-reverse k history)) ∙ o))
        ∙ holds k some id)
