-- A round of a worker: a take, the put of an outcome, and the tidying.
use Rattle.std.proofs.Common.{◌≡◌, ◌≢◌, ℕ, ◌+◌, ◌%◌, ◌<◌, List, [], ◌∷◌, ◌++◌, length, refl, ap}
use Rattle.std.proofs.Common.{sym, ◌∙◌, subst, arith, Bool, true, false, cond, Option, Some, All}
use Rattle.std.proofs.Common.{append_assoc, append-nil, length-append}
use Rattle.std.specs.Prelude.{◌==◌, reverse, IfSome}
use Rattle.std.proofs.lemmas.Bool.{true≢false, cond-true, cond-false, eq-eqb}
use Rattle.std.proofs.lemmas.List.{reverse-append}
use Rattle.bl_problem.specs.Program.{Program}
use Rattle.bl_journal.specs.declared.entry.Entry.{Entry}
use Rattle.bl_journal.specs.declared.entry.Entry.TheVariants.{Take, Put, Back, Encode, Free}
use Rattle.bl_journal.specs.declared.entry.Step.{Step}
use Rattle.bl_journal.specs.declared.entry.Step.TheVariants.{Shut as ShutStep, Split as SplitStep}
use Rattle.bl_journal.specs.declared.outcome.Outcome.{Outcome}
use Rattle.bl_journal.specs.declared.outcome.Next.{Next}
use Rattle.bl_journal.specs.declared.outcome.Next.TheVariants.{Shut, Split}
use Rattle.bl_journal.specs.declared.settings.Settings.{Settings}
use Rattle.bl_journal.specs.Births.{nodes_of}
use Rattle.bl_journal.specs.States.{state_of, put_state}
use Rattle.bl_journal.specs.declared.state.State.{State}
use Rattle.bl_journal.specs.declared.state.State.TheVariants.{Waiting as waiting, Out as out}
use Rattle.bl_journal.specs.Replies.{Reply, take_reply, is_out}
use Rattle.bl_journal.specs.Legality.{seat_of}
use Rattle.bl_journal.specs.Tidying.{splits, is_split, splits_of, IsUpkeepBy, IsDue, WasSettled}
use Rattle.bl_journal.specs.Tidying.{IsTidied}
use Rattle.bl_journal.proofs.Growth.{reverse-push}
use Rattle.bl_journal.proofs.Living.{Each, Each-append, Each-weaken}
use Rattle.bl_journal.proofs.Workable.{Each-from_all, All-from_each}
use Rattle.bl_journal.proofs.Upkeep.{untouched, settled_before, tidied_none, tidied_on}
use Rattle.bl_journal.proofs.Upkeep.{BothSettled, tidied_others}
use Rattle.bl_tree.specs.declared.answer.Born.{Born}
use Rattle.bl_tree.specs.Views.{TreeView, past_of, extended, put_entry, step_of}
use Rattle.bl_tree.specs.Answers.{IsBorn, born_for}
use Rattle.bl_turn.specs.Entries.{NoneBy}
use Rattle.bl_turn.proofs.EntryLemmas.{NoneBy-nil}
use Rattle.bl_shared.specs.Calls.{Knows, HasSeen, tree_at, tree_seen, turned, IsCall}
use Rattle.bl_journal.specs.Seats.{is_back}
use Rattle.bl_journal.proofs.Others.{others_back, All-reverse}
use Rattle.bl_worker.specs.Loops.{IsQuiet, IsKeptUp, HasTidied, HoldsNone, IsBetween, Grows}
use Rattle.bl_worker.specs.Loops.{Fails, WasTold, count_with}
use Rattle.bl_worker.proofs.Steps.{call_goes, goes_then, quiet_splits, quiet_back}

-- the seat's tree is tidied
abbrev Tidied : Knows → Type 0
Tidied v = IsTidied (tree_seen v).problem (tree_seen v).settings v.number (past_of (tree_seen v))

-- the history at which a call was made
found_past : (v : Knows) (others : List Entry) → past_of (tree_at v (v.seen ++ others))
    ≡ reverse others ++ past_of (tree_seen v)
found_past v others = reverse-append v.seen others

call_past : (v w : Knows) (others : List Entry) (e : Entry) → w ≡ turned v others (e ∷ [])
    → past_of (tree_seen w) ≡ e ∷ past_of (tree_at v (v.seen ++ others))
call_past v w others e is = ap (λ (u : Knows). past_of (tree_seen u)) is
    ∙ reverse-push (v.seen ++ others) e

found_tidied : (v : Knows) (others : List Entry) → NoneBy seat_of v.number others → Tidied v
    → IsTidied (tree_seen v).problem (tree_seen v).settings v.number
    (past_of (tree_at v (v.seen ++ others)))
found_tidied v others none t =
    subst (λ h. IsTidied (tree_seen v).problem (tree_seen v).settings v.number h)
    (sym (found_past v others))
    (tidied_others (tree_seen v).problem (tree_seen v).settings v.number (reverse others)
    (past_of (tree_seen v)) t (others_back v.number others none))

splits_on : (seat : ℕ) (more past : List Entry) → Each (λ e. splits seat e ≡ false) more
    → splits_of seat (more ++ past) ≡ splits_of seat past
splits_on seat [] past q = refl
splits_on seat (e ∷ more) past q =
    cond-false (splits seat e) (splits_of seat (more ++ past) + 1) (splits_of seat (more ++ past))
    q.0 ∙ splits_on seat more past q.1

others_quiet : (seat : ℕ) (others : List Entry) → NoneBy seat_of seat others
    → Each (λ e. splits seat e ≡ false) (reverse others)
others_quiet seat others none =
    Each-weaken (λ e. seat_of e ≢ seat) (λ e. splits seat e ≡ false)
    (λ e other. quiet_splits seat e (λ same. absurd (other same))) (reverse others)
    (others_back seat others none)

-- an entry that splits is not quiet
record StandsBelow (entries tail later : List Entry) (e : Entry) (earlier : List Entry) : Type 0
  where
    between : List Entry
    above : later ≡ entries ++ between
    below : tail ≡ between ++ e ∷ earlier

stands_below : (seat : ℕ) (entries tail later : List Entry) (e : Entry) (earlier : List Entry)
    → Each (IsQuiet seat) entries → entries ++ tail ≡ later ++ e ∷ earlier → splits seat e ≡ true
    → StandsBelow entries tail later e earlier
stands_below seat [] tail later e earlier u is split =
    record { between = later; above = refl; below = is }
stands_below seat (x ∷ entries) tail [] e earlier u is split =
    let same : x ≡ e = cc in
    absurd (true≢false (sym split ∙ (sym (ap (splits seat) same) ∙ quiet_splits seat x u.0)))
stands_below seat (x ∷ entries) tail (y ∷ later) e earlier u is split =
    let same : x ≡ y = cc in
    let rest : entries ++ tail ≡ later ++ e ∷ earlier = cc in
    let w = stands_below seat entries tail later e earlier u.1 rest split in
    record {
      between = w.between;
      above = ap (λ (z : Entry). z ∷ later) (sym same) ∙ ap (λ (l : List Entry). x ∷ l) w.above;
      below = w.below;
    }

-- after an entry and the quiet ones that follow it, the seat is tidy if both children are
-- settled where the entry is due
tidied_round : (p : Program) (s : Settings) (seat : ℕ) (past : List Entry) (e : Entry)
    (entries : List Entry) → IsTidied p s seat past → Each (IsQuiet seat) entries
    → (IsDue seat e past → BothSettled p s seat entries e past)
    → IsTidied p s seat (entries ++ e ∷ past)
tidied_round p s seat past e entries t u both later earlier x is due =
    by_between w.between w.above w.below
  where
    w : StandsBelow entries (e ∷ past) later x earlier
    w = stands_below seat entries (e ∷ past) later x earlier u is due.split

    by_between : (between : List Entry) → later ≡ entries ++ between → e ∷ past ≡ between ++ x
        ∷ earlier → BothSettled p s seat later x earlier
    by_between [] above below =
        let same : e ≡ x = cc in
        let before : past ≡ earlier = cc in
        let whole : entries ≡ later = sym (above ∙ append-nil entries) in
        subst (λ (y : Entry). IsDue seat y earlier → BothSettled p s seat later y earlier) same
        (subst (λ (h : List Entry). IsDue seat e h → BothSettled p s seat later e h) before
        (subst (λ (l : List Entry). IsDue seat e past → BothSettled p s seat l e past) whole
        both)) due
    by_between (y ∷ between) above below =
        let before : past ≡ between ++ x ∷ earlier = cc in
        let old = t between earlier x before due in
        let whole : (entries ++ y ∷ []) ++ between ≡ later = append_assoc entries (y ∷ []) between
        ∙ sym above in
        subst (λ (l : List Entry). BothSettled p s seat l x earlier) whole (
          settled_before p s seat (entries ++ y ∷ []) between (x ∷ earlier)
              (length (nodes_of p earlier)) old.0,
          settled_before p s seat (entries ++ y ∷ []) between (x ∷ earlier)
              (length (nodes_of p earlier) + 1) old.1,
        )

-- the two nodes that a split of a tree with these nodes bears
abbrev born_at : Program → List Entry → Born
born_at p past = record { left = length (nodes_of p past); right = length (nodes_of p past) + 1 }

-- after a put and the tidying
round_tidied : (v w : Knows) (born : Option Born) (count : ℕ) (earlier : List Entry) (put : Entry)
    → past_of (tree_seen v) ≡ put ∷ earlier
    → IsTidied (tree_seen v).problem (tree_seen v).settings v.number earlier
    → (h : HasTidied v born count w)
    → (IsDue v.number put earlier → (count ≡ 0)
    × (born ≡ Some (born_at (tree_seen v).problem earlier))) → Tidied w
round_tidied v w born count earlier put past t h due_is =
    subst Tidied (sym h.kept_up.goes)
    (subst (λ l. IsTidied (tree_seen v).problem (tree_seen v).settings v.number l)
    (sym (reverse-append v.seen h.kept_up.entries ∙ ap (λ l. reverse h.kept_up.entries ++ l)
    past))
    (tidied_round (tree_seen v).problem (tree_seen v).settings v.number earlier put
    (reverse h.kept_up.entries) t (quiet_back v w h.kept_up) both))
  where
    Was : ℕ → List Entry → Type 0
    Was id l = WasSettled (tree_seen v).problem (tree_seen v).settings v.number
        (reverse h.kept_up.entries) l id

    both : IsDue v.number put earlier → BothSettled (tree_seen v).problem (tree_seen v).settings
        v.number (reverse h.kept_up.entries) put earlier
    both due =
        let d = due_is due in
        let left : IfSome (Some (born_at (tree_seen v).problem earlier))
        (λ b. count ≡ 0 → Was b.left (past_of (tree_seen v))) =
        subst (λ o. IfSome o (λ b. count ≡ 0 → Was b.left (past_of (tree_seen v)))) d.1 h.left
        in
        let right : IfSome (Some (born_at (tree_seen v).problem earlier))
        (λ b. count ≡ 0 → Was b.right (past_of (tree_seen v))) =
        subst (λ o. IfSome o (λ b. count ≡ 0 → Was b.right (past_of (tree_seen v)))) d.1
        h.right in (
          subst (Was (length (nodes_of (tree_seen v).problem earlier))) past (left d.0),
          subst
              (Was (length (nodes_of (tree_seen v).problem earlier) + 1)) past (right d.0),
        )

-- after a put of another's take .. no node is out by the seat's own entries
over : (past : List Entry) (seat id : ℕ) (st : State) (k : ℕ) → is_out st ≡ false
    → is_out (state_of past k) ≡ false
    → is_out (cond (id == k) st (cond (id == k) (out seat) (state_of past k))) ≡ false
over past seat id st k none h = by_test (id == k)
  where
    by_test : (b : Bool) → is_out (cond b st (cond b (out seat) (state_of past k))) ≡ false
    by_test true = none
    by_test false = h

put_is_over : (next : Step) → is_out (put_state next) ≡ false
put_is_over ShutStep = refl
put_is_over (SplitStep common column at) = refl

pushed_twice : (mine : List Entry) (a b : Entry) → reverse ((mine ++ a ∷ []) ++ b ∷ []) ≡ b ∷ a
    ∷ reverse mine
pushed_twice mine a b = reverse-push (mine ++ a ∷ []) b ∙ ap (λ l. b ∷ l) (reverse-push mine a)

pub put_holds : (mine : List Entry) (seat id : ℕ) (o : Outcome)
    → ((k : ℕ) → is_out (state_of (reverse mine) k) ≡ false) → (k : ℕ)
    → is_out (state_of (reverse ((mine ++ Take seat id ∷ []) ++ put_entry seat id o ∷ [])) k)
    ≡ false
put_holds mine seat id o h k =
    ap (λ l. is_out (state_of l k)) (pushed_twice mine (Take seat id) (put_entry seat id o))
    ∙ over (reverse mine) seat id (put_state (step_of o.next)) k
    (put_is_over (step_of o.next)) (h k)

pub back_holds : (mine : List Entry) (seat id : ℕ) → ((k : ℕ) → is_out (state_of (reverse mine) k)
    ≡ false) → (k : ℕ)
    → is_out (state_of (reverse ((mine ++ Take seat id ∷ []) ++ Back seat id ∷ [])) k) ≡ false
back_holds mine seat id h k =
    ap (λ l. is_out (state_of l k)) (pushed_twice mine (Take seat id) (Back seat id))
    ∙ over (reverse mine) seat id waiting k refl (h k)

-- upkeep makes no node be out
pub kept_holds : (v w : Knows) → IsKeptUp v w → HoldsNone v → HoldsNone w
kept_holds v w k h = λ id.
    let all : Each (IsUpkeepBy v.number) (reverse k.own) =
    Each-from_all (IsUpkeepBy v.number) (reverse k.own)
    (All-reverse (IsUpkeepBy v.number) k.own k.upkeep) in
    ap (λ (u : Knows). is_out (state_of (reverse u.mine) id)) k.goes
    ∙ (ap (λ l. is_out (state_of l id)) (reverse-append v.mine k.own)
    ∙ (untouched (tree_seen v).problem v.number (reverse v.mine) (reverse k.own) all).none_out id
    (h id))

pub upkeep_back : (seat : ℕ) (e : Entry) → IsUpkeepBy seat e → is_back e ≡ false
upkeep_back seat (Encode other id form) u = refl
upkeep_back seat (Free other ids) u = refl
upkeep_back seat (Take other id) u = absurd u
upkeep_back seat (Put other id found low next) u = absurd u
upkeep_back seat (Back other id) u = absurd u

no_back_on : (es more : List Entry) → All (λ e. is_back e ≡ false) es
    → Each (λ e. is_back e ≡ false) more → All (λ e. is_back e ≡ false) (es ++ more)
no_back_on es more a b = All-from_each (λ e. is_back e ≡ false) (es ++ more)
    (Each-append (λ e. is_back e ≡ false) es more (Each-from_all (λ e. is_back e ≡ false) es a) b)

four : (n : ℕ) → (n % 4 + 1) % 4 ≡ (n + 1) % 4
four n = omega arith

module _ (a d : Knows) (before count id : ℕ) (o : Outcome) (born : Option Born)
    (to qo : List Entry) where
  -- what the seat knows after the take, and after the put
  abbrev B : Knows
  B = turned a to (Take a.number id ∷ [])

  abbrev C : Knows
  C = turned B qo (put_entry a.number id o ∷ [])

  abbrev earlier : List Entry
  earlier = past_of (tree_at B (B.seen ++ qo))

  taken_tidied : NoneBy seat_of a.number to → Tidied a → Tidied B
  taken_tidied none t =
      subst (λ h. IsTidied (tree_seen a).problem (tree_seen a).settings a.number h)
      (sym (call_past a B to (Take a.number id) refl))
      (tidied_on (tree_seen a).problem (tree_seen a).settings a.number
      (past_of (tree_at a (a.seen ++ to))) (Take a.number id) (found_tidied a to none t)
      (λ due. true≢false (sym due.split)))

  earlier_count : NoneBy seat_of a.number to → NoneBy seat_of a.number qo
      → splits_of a.number earlier ≡ splits_of a.number (past_of (tree_seen a))
  earlier_count none none_more =
      ap (splits_of a.number) (found_past B qo)
      ∙ (splits_on a.number (reverse qo) (past_of (tree_seen B))
      (others_quiet a.number qo none_more)
      ∙ (ap (splits_of a.number) (call_past a B to (Take a.number id) refl)
      ∙ (ap (splits_of a.number) (found_past a to)
      ∙ splits_on a.number (reverse to) (past_of (tree_seen a))
      (others_quiet a.number to none))))

  own_put : splits a.number (put_entry a.number id o) ≡ is_split (step_of o.next)
  own_put = cond-true (a.number == a.number) (is_split (step_of o.next)) false
      (eq-eqb a.number a.number refl)

  -- how many puts have split after this one
  after_put : splits_of a.number (put_entry a.number id o ∷ earlier)
      ≡ cond (is_split (step_of o.next)) (splits_of a.number earlier + 1)
      (splits_of a.number earlier)
  after_put = ap (λ b. cond b (splits_of a.number earlier + 1) (splits_of a.number earlier)) own_put

  counted_by : (next : Next) → before ≡ splits_of a.number (past_of (tree_seen a)) % 4
      → splits_of a.number earlier ≡ splits_of a.number (past_of (tree_seen a)) → count
      ≡ count_with before (born_for (tree_at B (B.seen ++ qo)) next)
      → count ≡ cond (is_split (step_of next)) (splits_of a.number earlier + 1)
      (splits_of a.number earlier) % 4
  counted_by Shut sp same is = is ∙ (sp ∙ ap (λ n. n % 4) (sym same))
  counted_by (Split common column at left right) sp same is =
      is ∙ (ap (λ n. (n + 1) % 4) sp
      ∙ (four (splits_of a.number (past_of (tree_seen a))) ∙ ap (λ n. (n + 1) % 4) (sym same)))

  due_by : (next : Next) → before ≡ splits_of a.number (past_of (tree_seen a)) % 4
      → splits_of a.number earlier ≡ splits_of a.number (past_of (tree_seen a)) → count
      ≡ count_with before (born_for (tree_at B (B.seen ++ qo)) next)
      → is_split (step_of next) ≡ true → (splits_of a.number earlier + 1) % 4 ≡ 0 → (count ≡ 0)
      × (born_for (tree_at B (B.seen ++ qo)) next ≡ Some (born_at (tree_seen a).problem earlier))
  due_by Shut sp same is split fourth = absurd (true≢false (sym split))
  due_by (Split common column at left right) sp same is split fourth =
      (counted_by (Split common column at left right) sp same is ∙ fourth, refl)

  worked_core : IsBetween a before → NoneBy seat_of a.number to → NoneBy seat_of a.number qo
      → born ≡ born_for (tree_at B (B.seen ++ qo)) o.next → count ≡ count_with before born
      → HasTidied C born count d → IsBetween d count
  worked_core b none none_more born_is is h =
      let same = earlier_count none none_more in
      let count_is : count ≡ count_with before (born_for (tree_at B (B.seen ++ qo)) o.next) =
      is ∙ ap (count_with before) born_is in
      let past : past_of (tree_seen C) ≡ put_entry a.number id o ∷ earlier =
      call_past B C qo (put_entry a.number id o) refl in
      let k : IsKeptUp C d = h.kept_up in
      let now : past_of (tree_seen d) ≡ reverse k.entries ++ put_entry a.number id o ∷ earlier =
      ap (λ (u : Knows). past_of (tree_seen u)) k.goes
      ∙ (reverse-append C.seen k.entries ∙ ap (λ l. reverse k.entries ++ l) past) in
      let number : d.number ≡ a.number = ap (λ (u : Knows). u.number) k.goes in
      let all : splits_of d.number (past_of (tree_seen d))
      ≡ cond (is_split (step_of o.next)) (splits_of a.number earlier + 1)
      (splits_of a.number earlier) =
      ap (λ n. splits_of n (past_of (tree_seen d))) number
      ∙ (ap (splits_of a.number) now
      ∙ (splits_on a.number (reverse k.entries) (put_entry a.number id o ∷ earlier)
      (Each-weaken (IsQuiet a.number) (λ e. splits a.number e ≡ false) (quiet_splits a.number)
      (reverse k.entries) (quiet_back C d k)) ∙ after_put)) in
      record {
        holds_none = kept_holds C d k (put_holds a.mine a.number id o b.holds_none);
        no_back = subst (All (λ e. is_back e ≡ false)) (sym (ap (λ (u : Knows). u.mine) k.goes))
            (no_back_on C.mine k.own (no_back_on (a.mine ++ Take a.number id ∷ [])
            (put_entry a.number id o ∷ [])
            (no_back_on a.mine (Take a.number id ∷ []) b.no_back (refl, tt)) (refl, tt))
            (Each-weaken (IsUpkeepBy a.number) (λ e. is_back e ≡ false) (upkeep_back a.number)
            k.own (Each-from_all (IsUpkeepBy a.number) k.own k.upkeep)));
        tidied = round_tidied C d born count earlier (put_entry a.number id o) past
            (found_tidied B qo none_more (taken_tidied none b.tidied)) h
            (λ due. let e = due_by o.next b.counted same count_is (sym own_put ∙ due.split)
            due.fourth in (e.0, born_is ∙ e.1));
        counted = counted_by o.next b.counted same count_is ∙ ap (λ n. n % 4) (sym all);
      }

-- after a take, a put and the tidying the seat is between its turns again
pub worked : (a b c d : Knows) (before count id : ℕ) (o : Outcome) (born : Option Born)
    (taking putting : TreeView → TreeView → Type 0) → IsBetween a before
    → IsCall a (Take a.number id ∷ []) taking b
    → (q : IsCall b (put_entry b.number id o ∷ []) putting c) → born
    ≡ born_for (tree_at b (b.seen ++ q.others)) o.next
    → count ≡ count_with before born → HasTidied c born count d → IsBetween d count
worked a b c d before count id o born taking putting between t q born_is is h =
    subst after_take (sym t.is) from_take q.others q.none_own q.is born_is
  where
    after_take : Knows → Type 0
    after_take x = (qo : List Entry) → NoneBy seat_of x.number qo → c
        ≡ turned x qo (put_entry x.number id o ∷ []) → born
        ≡ born_for (tree_at x (x.seen ++ qo)) o.next → IsBetween d count

    from_take : after_take (turned a t.others (Take a.number id ∷ []))
    from_take qo none c_is born_is' =
        worked_core a d before count id o born t.others qo between t.none_own none born_is' is
        (subst (λ (x : Knows). HasTidied x born count d) c_is h)

-- what the seat knows goes on
pub grows_by : (v w : Knows) (added : List Entry) (call : TreeView → TreeView → Type 0)
    → IsCall v added call w → Grows v w
grows_by v w added call c = record {
  entries = c.others ++ added;
  own = added;
  goes =
      call_goes v w c.others added c.is;
}

pub grows_kept : (v w : Knows) → IsKeptUp v w → Grows v w
grows_kept v w k = record { entries = k.entries; own = k.own; goes = k.goes }

pub grows_then : (v w x : Knows) → Grows v w → Grows w x → Grows v x
grows_then v w x g h = record {
  entries = g.entries ++ h.entries;
  own = g.own ++ h.own;
  goes =
      goes_then v w x g.entries g.own h.entries h.own g.goes h.goes;
}

pub tidied_quiet : (p : Program) (s : Settings) (seat : ℕ) (more past : List Entry)
    → IsTidied p s seat past → Each (IsQuiet seat) more → IsTidied p s seat (more ++ past)
tidied_quiet p s seat [] past t q = t
tidied_quiet p s seat (e ∷ more) past t q =
    tidied_on p s seat (more ++ past) e (tidied_quiet p s seat more past t q.1)
    (λ due. true≢false (sym due.split ∙ quiet_splits seat e q.0))

-- upkeep leaves the seat between its turns
pub kept_between : (v w : Knows) (count : ℕ) → IsKeptUp v w → IsBetween v count → IsBetween w count
kept_between v w count k b =
    let now : past_of (tree_seen w) ≡ reverse k.entries ++ past_of (tree_seen v) =
    ap (λ (u : Knows). past_of (tree_seen u)) k.goes ∙ reverse-append v.seen k.entries in
    let number : w.number ≡ v.number = ap (λ (u : Knows). u.number) k.goes in
    let quiet = quiet_back v w k in
    record {
      holds_none = kept_holds v w k b.holds_none;
      no_back = subst (All (λ e. is_back e ≡ false)) (sym (ap (λ (u : Knows). u.mine) k.goes))
          (no_back_on v.mine k.own b.no_back (Each-weaken (IsUpkeepBy v.number)
          (λ e. is_back e ≡ false) (upkeep_back v.number) k.own
          (Each-from_all (IsUpkeepBy v.number) k.own k.upkeep)));
      tidied = subst Tidied (sym k.goes)
          (subst (λ l. IsTidied (tree_seen v).problem (tree_seen v).settings v.number l)
          (sym (reverse-append v.seen k.entries))
          (tidied_quiet (tree_seen v).problem (tree_seen v).settings v.number (reverse k.entries)
          (past_of (tree_seen v)) b.tidied quiet));
      counted = b.counted ∙ sym
          (ap (λ n. n % 4) (ap (λ n. splits_of n (past_of (tree_seen w))) number
          ∙ (ap (splits_of v.number) now ∙ splits_on v.number (reverse k.entries)
          (past_of (tree_seen v)) (Each-weaken (IsQuiet v.number)
          (λ e. splits v.number e ≡ false) (quiet_splits v.number) (reverse k.entries)
          quiet))));
    }

-- a round that ended early for want of memory
pub fails_take : (v w : Knows) (count : ℕ) → IsBetween v count → IsKeptUp v w → Fails v w
fails_take v w count b k = record {
  grows = grows_kept v w k;
  holds_none =
      kept_holds v w k b.holds_none;
}

pub fails_back : (a b c : Knows) (count id : ℕ) (taking backing : TreeView → TreeView → Type 0)
    → IsBetween a count → IsCall a (Take a.number id ∷ []) taking b
    → IsCall b (Back b.number id ∷ []) backing c → Fails a c
fails_back a b c count id taking backing t q r =
    record {
      grows = grows_then a b c (grows_by a b (Take a.number id ∷ []) taking q)
          (grows_by b c (Back b.number id ∷ []) backing r);
      holds_none = subst HoldsNone (sym r.is)
          (subst after_take (sym q.is) (back_holds a.mine a.number id t.holds_none));
    }
  where
    after_take : Knows → Type 0
    after_take x = (k : ℕ) → is_out (state_of (reverse (x.mine ++ Back x.number id ∷ [])) k) ≡ false

pub fails_tidy : (a b c d : Knows) (count id : ℕ) (o : Outcome) (taking putting : TreeView
    → TreeView → Type 0) → IsBetween a count → IsCall a (Take a.number id ∷ []) taking b
    → IsCall b (put_entry b.number id o ∷ []) putting c → IsKeptUp c d → Fails a d
fails_tidy a b c d count id o taking putting t q r k =
    record {
      grows = grows_then a c d (grows_then a b c (grows_by a b (Take a.number id ∷ []) taking q)
          (grows_by b c (put_entry b.number id o ∷ []) putting r)) (grows_kept c d k);
      holds_none =
          kept_holds c d k (subst HoldsNone (sym r.is)
          (subst after_take (sym q.is) (put_holds a.mine a.number id o t.holds_none)));
    }
  where
    after_take : Knows → Type 0
    after_take x = (k : ℕ) → is_out
        (state_of (reverse (x.mine ++ put_entry x.number id o ∷ [])) k) ≡ false

pub grows_worked : (a b c d : Knows) (id : ℕ) (o : Outcome) (taking putting : TreeView → TreeView
    → Type 0) → IsCall a (Take a.number id ∷ []) taking b
    → IsCall b (put_entry b.number id o ∷ []) putting c → IsKeptUp c d → Grows a d
grows_worked a b c d id o taking putting q r k =
    grows_then a c d (grows_then a b c (grows_by a b (Take a.number id ∷ []) taking q)
    (grows_by b c (put_entry b.number id o ∷ []) putting r)) (grows_kept c d k)

-- the seat begins between its turns
pub begins : (v : Knows) → HasSeen v → v.mine ≡ [] → IsBetween v 0
begins v h none =
    let all : Each (λ e. seat_of e ≢ v.number) (past_of (tree_seen v)) =
    others_back v.number v.seen (NoneBy-nil seat_of v.number v.seen (h.own ∙ none)) in
    let quiet : Each (IsQuiet v.number) (past_of (tree_seen v)) =
    Each-weaken (λ e. seat_of e ≢ v.number) (IsQuiet v.number)
    (λ e other same. absurd (other same)) (past_of (tree_seen v)) all in
    let same : past_of (tree_seen v) ++ [] ≡ past_of (tree_seen v) =
    append-nil (past_of (tree_seen v)) in
    record {
      holds_none = λ id. ap (λ l. is_out (state_of (reverse l) id)) none;
      no_back = subst (All (λ e. is_back e ≡ false)) (sym none)
          (All-from_each (λ e. is_back e ≡ false) [] tt);
      tidied = subst (λ l. IsTidied (tree_seen v).problem (tree_seen v).settings v.number l) same
          (tidied_quiet (tree_seen v).problem (tree_seen v).settings v.number
          (past_of (tree_seen v)) []
          (tidied_none (tree_seen v).problem (tree_seen v).settings v.number) quiet);
      counted =
          sym (ap (λ n. n % 4) (ap (splits_of v.number) (sym same) ∙ splits_on v.number
          (past_of (tree_seen v)) [] (Each-weaken (IsQuiet v.number)
          (λ e. splits v.number e ≡ false) (quiet_splits v.number) (past_of (tree_seen v)) quiet)));
    }

pub below_four : (v : Knows) (count : ℕ) → IsBetween v count → count < 4
below_four v count b = let c : count ≡ splits_of v.number (past_of (tree_seen v)) % 4 =
    b.counted in omega (arith, c)

-- the problem and the span stay
pub same_problem : (v w : Knows) → Grows v w → (tree_seen w).problem ≡ (tree_seen v).problem
same_problem v w g = ap (λ (u : Knows). (tree_seen u).problem) g.goes

pub same_settings : (v w : Knows) → Grows v w → (tree_seen w).settings ≡ (tree_seen v).settings
same_settings v w g = ap (λ (u : Knows). (tree_seen u).settings) g.goes

-- the children of a put are born
pub left_born : (old new : TreeView) (seat id : ℕ) (o : Outcome) (born : Option Born) → new
    ≡ extended old (put_entry seat id o) → born ≡ born_for old o.next
    → IfSome born (λ b. IsBorn new b.left)
left_born old new seat id o born is born_is =
    subst (λ (b : Option Born). IfSome b (λ x. IsBorn new x.left)) (sym born_is)
    (subst (λ (t : TreeView). IfSome (born_for old o.next) (λ x. IsBorn t x.left)) (sym is)
    (by_next o.next))
  where
    by_next : (next : Next) → IfSome (born_for old next)
        (λ x. IsBorn (extended old (Put seat id o.found o.low (step_of next))) x.left)
    by_next Shut = tt
    by_next (Split common column at left right) =
        let e : Entry = Put seat id o.found o.low (SplitStep common column at) in
        let len : length (nodes_of old.problem (e ∷ past_of old))
        ≡ length (nodes_of old.problem (past_of old)) + 2 =
        length-append (nodes_of old.problem (past_of old)) _ in
        let more : length (nodes_of old.problem (past_of old))
        < length (nodes_of old.problem (e ∷ past_of old)) = omega (arith, len) in
        subst (λ h. length (nodes_of old.problem (past_of old)) < length (nodes_of old.problem h))
        (sym (reverse-push old.history e)) more

pub right_born : (old new : TreeView) (seat id : ℕ) (o : Outcome) (born : Option Born) → new
    ≡ extended old (put_entry seat id o) → born ≡ born_for old o.next
    → IfSome born (λ b. IsBorn new b.right)
right_born old new seat id o born is born_is =
    subst (λ (b : Option Born). IfSome b (λ x. IsBorn new x.right)) (sym born_is)
    (subst (λ (t : TreeView). IfSome (born_for old o.next) (λ x. IsBorn t x.right)) (sym is)
    (by_next o.next))
  where
    by_next : (next : Next) → IfSome (born_for old next)
        (λ x. IsBorn (extended old (Put seat id o.found o.low (step_of next))) x.right)
    by_next Shut = tt
    by_next (Split common column at left right) =
        let e : Entry = Put seat id o.found o.low (SplitStep common column at) in
        let len : length (nodes_of old.problem (e ∷ past_of old))
        ≡ length (nodes_of old.problem (past_of old)) + 2 =
        length-append (nodes_of old.problem (past_of old)) _ in
        let more : length (nodes_of old.problem (past_of old)) + 1
        < length (nodes_of old.problem (e ∷ past_of old)) = omega (arith, len) in
        subst (λ h. length (nodes_of old.problem (past_of old)) + 1
        < length (nodes_of old.problem h)) (sym (reverse-push old.history e)) more

-- a take that added no entry was answered so at what the seat has then seen
pub was_told : (w : Knows) (old : TreeView) (reply : Reply)
    → take_reply old.problem old.settings (past_of old) ≡ reply → tree_seen w ≡ old
    → WasTold reply w
was_told w old reply told is = subst
    (λ (t : TreeView). take_reply t.problem t.settings (past_of t) ≡ reply) (sym is) told
