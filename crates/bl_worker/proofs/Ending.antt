-- The whole history, once all workers have ended.
use Rattle.std.proofs.Common.{◌≡◌, ◌≢◌, ℕ, zero, suc, ◌+◌, ◌<◌, ◌≤◌, List, [], ◌∷◌, ◌++◌, length}
use Rattle.std.proofs.Common.{map, refl, ap, sym, ◌∙◌, subst, arith, Bool, true, false, cond, inl}
use Rattle.std.proofs.Common.{inr, ◌⊎◌, All, get_or, append_assoc, append-nil}
use Rattle.std.specs.Prelude.{◌==◌, reverse, slice_index_or}
use Rattle.std.proofs.lemmas.Bool.{cases_lt, eq-eqb, true≢false}
use Rattle.std.proofs.lemmas.List.{reverse-append, get_or-map, length-map, append_cancel_left}
use Rattle.bl_problem.specs.Program.{Program}
use Rattle.bl_problem.specs.declared.cut.Cut.{Cut}
use Rattle.bl_desc.specs.declared.desc.Desc.{Desc}
use Rattle.bl_journal.specs.declared.entry.Entry.{Entry}
use Rattle.bl_journal.specs.declared.settings.Settings.{Settings}
use Rattle.bl_journal.specs.States.{state_of}
use Rattle.bl_journal.specs.declared.state.State.TheVariants.{Out as out}
use Rattle.bl_journal.specs.Replies.{is_out}
use Rattle.bl_journal.specs.Legality.{seat_of, IsLegal}
use Rattle.bl_journal.specs.Tidying.{IsTidied}
use Rattle.bl_journal.proofs.Living.{Each}
use Rattle.bl_journal.proofs.Workable.{Each-from_all, All-from_each}
use Rattle.bl_branch.specs.declared.place.Place.{Place}
use Rattle.bl_tree.specs.Views.{TreeView, past_of, IsLegalTree}
use Rattle.bl_turn.specs.Entries.{entries_by, NoneBy, FromOneTo, BeginsWith}
use Rattle.bl_turn.specs.Seats.{view_of}
use Rattle.bl_turn.proofs.EntryLemmas.{entries_by-append, entries_by-none, NoneBy-nil}
use Rattle.bl_shared.specs.declared.shared.SharedTree.{SharedTree}
use Rattle.bl_shared.specs.Calls.{Knows, tree_seen, base_in}
use Rattle.bl_journal.specs.Seats.{is_back, HasNoneOut, IsOver, HoldersAreTold, SearchesEnd}
use Rattle.bl_journal.specs.Seats.{SeatsStayTidy}
use Rattle.bl_journal.proofs.Others.{others_back}
use Rattle.bl_journal.proofs.Endings.{none_out_if}
use Rattle.bl_worker.specs.declared.worker.WorkerEnd.{WorkerEnd}
use Rattle.bl_worker.specs.declared.worker.WorkerEnd.TheVariants.{Done, Spent, Memory}
use Rattle.bl_worker.specs.declared.run.Job.{Job}
use Rattle.bl_worker.specs.Splits.{SplitsBy, SplitsOwnAt}
use Rattle.bl_worker.specs.Loops.{GoesOnBy, HoldsNone, IsOrderly, IsOrderlyAt, EndsLoop}
use Rattle.bl_worker.specs.Jobs.{first_of_worker, IsWorkerSeat, AreWorkerSeats, HasRun, HaveJoined}
use Rattle.bl_worker.specs.Ends.{HasNoneByWorkers, IsOrderlyIn, HasClosed, HaveEnded}
use Rattle.bl_worker.specs.Ends.{SplitByWorkersAt}
use Rattle.bl_worker.proofs.Splitting.{others_places}

-- what a list has added is nothing, where the whole is no longer
nothing_added : (xs ys : List Entry) → xs ++ ys ≡ xs → ys ≡ []
nothing_added [] ys e = e
nothing_added (x ∷ xs) ys e = let t : xs ++ ys ≡ xs = cc in nothing_added xs ys t

-- What a seat knew at its end, told by the tree: others alone went on, and all entries of its
-- number are its own
record IsFinished (t : TreeView) (seat : ℕ) (x : Knows) : Type 0 where
  rest : List Entry
  parts : t.history ≡ x.seen ++ rest
  tree : tree_seen x ≡ record { problem = t.problem; settings = t.settings; history = x.seen }
  number : x.number ≡ seat
  own : entries_by seat_of seat t.history ≡ x.mine
  others : NoneBy seat_of seat rest

-- the history read backward, in its two parts
turned : (t : TreeView) (seat : ℕ) (x : Knows) (f : IsFinished t seat x) → past_of t
    ≡ reverse f.rest ++ reverse x.seen
turned t seat x f = ap reverse f.parts ∙ reverse-append x.seen f.rest

still_tidied : SeatsStayTidy → (t : TreeView) (seat : ℕ) (x : Knows) → IsFinished t seat x
    → IsTidied (tree_seen x).problem (tree_seen x).settings x.number (past_of (tree_seen x))
    → IsTidied t.problem t.settings seat (past_of t)
still_tidied law t seat x f h =
    let named : IsTidied (tree_seen x).problem (tree_seen x).settings seat
    (past_of (tree_seen x)) =
    subst (λ (n : ℕ). IsTidied (tree_seen x).problem (tree_seen x).settings n
    (past_of (tree_seen x))) f.number h in
    let there : IsTidied t.problem t.settings seat (reverse x.seen) =
    subst (λ (u : TreeView). IsTidied u.problem u.settings seat (past_of u)) f.tree named in
    subst (λ h. IsTidied t.problem t.settings seat (reverse h)) (sym f.parts)
    (law t.problem t.settings seat x.seen f.rest f.others there)

still_placed : (P : Desc Cut → Place → Type 0) (t : TreeView) (seat : ℕ) (x : Knows)
    → IsFinished t seat x → SplitsOwnAt P x → SplitsBy seat P t.problem (past_of t)
still_placed P t seat x f h =
    let named : SplitsBy seat P (tree_seen x).problem (past_of (tree_seen x)) =
    subst (λ (n : ℕ). SplitsBy n P (tree_seen x).problem (past_of (tree_seen x))) f.number h in
    let there : SplitsBy seat P t.problem (reverse x.seen) =
    subst (λ (u : TreeView). SplitsBy seat P u.problem (past_of u)) f.tree named in
    subst (SplitsBy seat P t.problem) (sym (turned t seat x f))
    (others_places P t.problem seat (reverse f.rest) (reverse x.seen)
    (others_back seat f.rest f.others) there)

-- by its own entries no node is out with the seat
not_held : HoldersAreTold → (t : TreeView) (seat : ℕ) (x : Knows) → IsFinished t seat x
    → HoldsNone x → (id : ℕ) → state_of (past_of t) id ≡ out seat → ⊥
not_held law t seat x f none id o =
    let mine : state_of (reverse x.mine) id ≡ out seat =
    subst (λ es. state_of (reverse es) id ≡ out seat) f.own (law.told t.history id seat o) in
    true≢false (sym (ap is_out mine) ∙ none id)

-- no node was out before the workers began, and none is out with a worker: none is out
none_out_after : HoldersAreTold → (p : Program) (s : Settings) (workers : ℕ)
    (before entries : List Entry) → IsLegal p s before → HasNoneOut before
    → FromOneTo seat_of workers entries
    → ((seat : ℕ) → 1 ≤ seat → seat ≤ workers → (id : ℕ)
    → state_of (reverse (before ++ entries)) id ≡ out seat → ⊥) → HasNoneOut (before ++ entries)
none_out_after law p s workers before entries legal none few held =
    none_out_if (reverse (before ++ entries))
    (λ id seat o. by_seat id seat o (cases_lt 0 seat) (cases_lt workers seat))
  where
    by_others : (id seat : ℕ) → NoneBy seat_of seat entries
        → state_of (reverse (before ++ entries)) id ≡ out seat → ⊥
    by_others id seat others o =
        let same : entries_by seat_of seat (before ++ entries) ≡ entries_by seat_of seat before =
        entries_by-append seat_of seat before entries
        ∙ (ap (λ es. entries_by seat_of seat before ++ es)
        (entries_by-none seat_of seat entries others)
        ∙ append-nil (entries_by seat_of seat before)) in
        let own = subst (λ es. state_of (reverse es) id ≡ out seat) same
        (law.told (before ++ entries) id seat o) in
        true≢false (sym (ap is_out (law.true_told p s before id seat legal own)) ∙ none id)

    by_seat : (id seat : ℕ) → state_of (reverse (before ++ entries)) id ≡ out seat → (0 < seat)
        ⊎ (seat ≤ 0) → (workers < seat) ⊎ (seat ≤ workers) → ⊥
    by_seat id seat o (inl some) (inl more) =
        by_others id seat (λ i d h. let k = few i d h in λ same. let le =
        k.1 in absurd (omega (arith, le, same, more))) o
    by_seat id seat o (inl some) (inr few_enough) = held seat (omega (arith, some)) few_enough id o
    by_seat id seat o (inr nought) more = by_others id seat (λ i d h. let k =
        few i d h in λ same. let le = k.0 in absurd (omega (arith, le, same, nought))) o

-- an entry of a list is an entry of its own number
own_back : (seat : ℕ) (es : List Entry)
    → Each (λ e. is_back e ≡ false) (entries_by seat_of seat es)
    → Each (λ e. seat_of e ≡ seat → is_back e ≡ false) es
own_back seat [] a = tt
own_back seat (e ∷ es) a = by_seat (seat_of e == seat) refl (λ k. own_back seat es k) a
  where
    by_seat : (b : Bool) → (seat_of e == seat) ≡ b
        → (Each (λ x. is_back x ≡ false) (entries_by seat_of seat es)
        → Each (λ x. seat_of x ≡ seat → is_back x ≡ false) es)
        → Each (λ x. is_back x ≡ false) (cond b (e ∷ entries_by seat_of seat es)
        (entries_by seat_of seat es)) → Each (λ x. seat_of x ≡ seat → is_back x ≡ false)
        (e ∷ es)
    by_seat true t ih h = ((λ _. h.0), ih h.1)
    by_seat false f ih h = (
      (λ same. let t : (seat_of e == seat) ≡ true =
          eq-eqb (seat_of e) seat same in let c : true ≡ false = sym t ∙ f in cc),
      ih h,
    )

-- where no worker gave a node back, none of their entries does
no_back_at_all : (es : List Entry) (n : ℕ) → Each (λ e. (1 ≤ seat_of e) × (seat_of e ≤ n)) es
    → ((seat : ℕ) → 1 ≤ seat → seat ≤ n → Each (λ e. seat_of e ≡ seat → is_back e ≡ false) es)
    → Each (λ e. is_back e ≡ false) es
no_back_at_all [] n few own = tt
no_back_at_all (e ∷ es) n few own = (
  (own (seat_of e) few.0.0 few.0.1).0 refl,
  no_back_at_all es n few.1
      (λ seat some k. (own seat some k).1),
)

right_part : (P : Entry → Type 0) (xs ys : List Entry) → Each P (xs ++ ys) → Each P ys
right_part P [] ys a = a
right_part P (x ∷ xs) ys a = right_part P xs ys a.1

-- a worker that ended in order
in_order : (end : WorkerEnd) (x : Knows) → end ≢ Memory → IsOrderlyAt end x → IsOrderly x
in_order Done x other o = o
in_order Spent x other o = o
in_order Memory x other o = absurd (other refl)

told_over : (end : WorkerEnd) (x : Knows) → end ≢ Memory → EndsLoop end x
    → IsOver (tree_seen x).problem (tree_seen x).settings (past_of (tree_seen x))
told_over Done x other e = inl e
told_over Spent x other e = inr e
told_over Memory x other e = absurd (other refl)

-- the search is over, where one worker was told so
over_at_end : SearchesEnd → (t : TreeView) (seat : ℕ) (x : Knows) (f : IsFinished t seat x)
    → IsLegalTree t → HasNoneOut t.history → All (λ e. is_back e ≡ false) f.rest
    → IsOver (tree_seen x).problem (tree_seen x).settings (past_of (tree_seen x))
    → IsOver t.problem t.settings (past_of t)
over_at_end law t seat x f legal none_out no_back over =
    let there : IsOver t.problem t.settings (reverse x.seen) =
    subst (λ (u : TreeView). IsOver u.problem u.settings (past_of u)) f.tree over in
    subst (λ h. IsOver t.problem t.settings (reverse h)) (sym f.parts)
    ((law t.problem t.settings x.seen f.rest (subst (IsLegal t.problem t.settings) f.parts
    legal)).over (λ id. ap (λ h. is_out (state_of (reverse h) id)) (sym f.parts)
    ∙ none_out id) no_back there)

-- a worker has finished once its seat was taken in
record WorkerEnded (P : Desc Cut → Place → Type 0) (t : TreeView) (v : Knows) (seat : ℕ)
    (j : Job) : Type 0 where
  finished : IsFinished t seat (view_of j.seat)
  es : List Entry
  grows : (view_of j.seat).seen ≡ v.seen ++ es
  holds_none : HoldsNone (view_of j.seat)
  orderly : IsOrderlyAt j.end (view_of j.seat)
  ends : EndsLoop j.end (view_of j.seat)
  places : SplitsOwnAt P (view_of j.seat)

worker_ended : (P : Desc Cut → Place → Type 0) (t : SharedTree) (v w : Knows) (seat : ℕ)
    (old new : Job) → IsWorkerSeat t v seat old → HasRun P t old new → w.base ≡ v.base
    → BeginsWith w.seen (view_of new.seat).seen → entries_by seat_of (view_of new.seat).number
    w.seen ≡ (view_of new.seat).mine → WorkerEnded P (tree_seen w) v seat new
worker_ended P t v w seat old new is run base met own =
    let g = run.looped.grows in
    let x : Knows = view_of new.seat in
    let goes : GoesOnBy (first_of_worker v seat) g.entries g.own x =
    subst (λ (u : Knows). GoesOnBy u g.entries g.own x) is.knows g.goes in
    let number : x.number ≡ seat = ap (λ (u : Knows). u.number) goes in
    let seen : x.seen ≡ v.seen ++ g.entries = ap (λ (u : Knows). u.seen) goes in
    let same : x.base ≡ w.base = ap (λ (u : Knows). u.base) goes ∙ sym base in
    let here : entries_by seat_of seat w.seen ≡ x.mine =
    subst (λ (n : ℕ). entries_by seat_of n w.seen ≡ x.mine) number own in
    let before : entries_by seat_of seat x.seen ≡ x.mine =
    subst (λ (n : ℕ). entries_by seat_of n x.seen ≡ x.mine) number run.seat.2.own in
    let longer : entries_by seat_of seat x.seen ++ entries_by seat_of seat met.0
    ≡ entries_by seat_of seat x.seen =
    sym (entries_by-append seat_of seat x.seen met.0)
    ∙ (ap (entries_by seat_of seat) (sym met.1) ∙ (here ∙ sym before)) in
    record {
      finished = record {
        rest = met.0;
        parts = met.1;
        tree = ap (λ b. record {
          problem = (base_in b).problem;
          settings =
              (base_in b).settings;
          history = x.seen;
        }) same;
        number = number;
        own = here;
        others = NoneBy-nil seat_of seat met.0
            (nothing_added (entries_by seat_of seat x.seen) (entries_by seat_of seat met.0) longer);
      };
      es = g.entries;
      grows = seen;
      holds_none = run.looped.holds_none;
      orderly = run.looped.orderly;
      ends = run.looped.ends;
      places = run.places;
    }

-- no entry of a worker's number stands in the history before
none_before : (workers seat : ℕ) (history : List Entry) → HasNoneByWorkers workers history → 1
    ≤ seat → seat ≤ workers → NoneBy seat_of seat history
none_before workers seat history none some few = λ i d h. by_case (get_or history i d) (none i d h)
  where
    by_case : (e : Entry) → (seat_of e ≡ 0) ⊎ (workers < seat_of e) → seat_of e ≢ seat
    by_case e (inl nought) same = absurd (omega (arith, nought, same, some))
    by_case e (inr more) same = absurd (omega (arith, more, same, few))

pub fresh_worker : (workers seat : ℕ) (v : Knows) → HasNoneByWorkers workers v.seen → 1 ≤ seat
    → seat ≤ workers → (first_of_worker v seat).mine ≡ []
fresh_worker workers seat v none some few =
    entries_by-none seat_of seat v.seen (none_before workers seat v.seen none some few)

module _ (told : HoldersAreTold) (over : SearchesEnd) (tidy : SeatsStayTidy) (P : Desc Cut → Place
    → Type 0) (t : SharedTree) (v w : Knows) (workers : ℕ) (before after : List Job)
    (legal_before : IsLegalTree (tree_seen v)) (legal : IsLegalTree (tree_seen w))
    (count : length before ≡ workers) (count_after : length after ≡ length before)
    (seats : AreWorkerSeats t v before) (runs : (i : ℕ) (d : Job) → i < length before
    → HasRun P t (slice_index_or before i d) (slice_index_or after i d))
    (joined : HaveJoined (record v { given = workers }) after w) (d : Job) where
  -- each worker has ended
  each_ended : (i : ℕ) → i < workers
      → WorkerEnded P (tree_seen w) v (i + 1) (slice_index_or after i d)
  each_ended i l =
      let in_before : i < length before = omega (arith, count, l) in
      let in_after : i < length after = omega (arith, count, count_after, l) in
      worker_ended P t v w (i + 1) (slice_index_or before i d) (slice_index_or after i d)
      (seats i d in_before) (runs i d in_before) joined.base (joined.met i d in_after)
      (joined.own i d in_after)

  by_number : (seat : ℕ) → 1 ≤ seat → seat ≤ workers → (j : Job)
      × WorkerEnded P (tree_seen w) v seat j
  by_number zero some few = absurd (omega (arith, some))
  by_number (suc i) some few = (
    slice_index_or after i d,
    subst (λ (n : ℕ). WorkerEnded P (tree_seen w) v n
        (slice_index_or after i d)) (omega arith) (each_ended i (omega (arith, few))),
  )

  pub places_at_end : SplitByWorkersAt workers P (tree_seen w)
  places_at_end seat some few = let k =
      by_number seat some few in still_placed P (tree_seen w) seat (view_of k.0.seat) k.1.finished
      k.1.places

  none_out_at_end : HasNoneOut v.seen → HasNoneOut w.seen
  none_out_at_end none =
      subst HasNoneOut (sym joined.seen)
      (none_out_after told (tree_seen w).problem (tree_seen w).settings workers v.seen
      joined.entries (subst (λ b. IsLegal (base_in b).problem (base_in b).settings v.seen)
      (sym joined.base) legal_before) none joined.from_given
      (λ seat some few id o. let k = by_number seat some few in
      not_held told (tree_seen w) seat (view_of k.0.seat) k.1.finished k.1.holds_none id
      (subst (λ h. state_of (reverse h) id ≡ out seat) (sym joined.seen) o)))

  ends_at : (i : ℕ) (e : WorkerEnd) → i < workers
      → slice_index_or (map (λ (j : Job). j.end) after) i e ≡ (slice_index_or after i d).end
  ends_at i e l = get_or-map (λ (j : Job). j.end) after i d e (omega (arith, count, count_after, l))

  orderly_at_end : (i : ℕ) (e : WorkerEnd) → i < workers
      → slice_index_or (map (λ (j : Job). j.end) after) i e ≢ Memory
      → IsOrderlyIn (tree_seen w) (i + 1)
  orderly_at_end i e l other =
      let k = each_ended i l in
      let o = in_order (slice_index_or after i d).end (view_of (slice_index_or after i d).seat)
      (λ same. other (ends_at i e l ∙ same)) k.orderly in
      record {
        no_back = subst (All (λ x. is_back x ≡ false)) (sym k.finished.own) o.no_back;
        tidied = still_tidied tidy (tree_seen w) (i + 1) (view_of (slice_index_or after i d).seat)
            k.finished o.tidied;
      }

  closed_at_end : HasNoneOut v.seen → HasNoneByWorkers workers v.seen → 1 ≤ workers
      → All (λ e. e ≢ Memory) (map (λ (j : Job). j.end) after)
      → HasClosed (tree_seen w) joined.entries
  closed_at_end none_before_all before_none some all =
      let other : (i : ℕ) → i < workers → (slice_index_or after i d).end ≢ Memory =
      λ i l same. all_at i l (ends_at i Done l ∙ same) in
      let backs : Each (λ e. is_back e ≡ false) joined.entries =
      no_back_at_all joined.entries workers
      (Each-from_all (λ e. (1 ≤ seat_of e) × (seat_of e ≤ workers)) joined.entries
      joined.from_given)
      (λ seat one few. own_back seat joined.entries (own_entries seat one few)) in
      let k = each_ended 0 (omega (arith, some)) in
      let x : Knows = view_of (slice_index_or after 0 d).seat in
      let rest : joined.entries ≡ k.es ++ k.finished.rest =
      append_cancel_left v.seen joined.entries (k.es ++ k.finished.rest)
      (sym joined.seen ∙ (k.finished.parts
      ∙ (ap (λ h. h ++ k.finished.rest) k.grows ∙ append_assoc v.seen k.es k.finished.rest))) in
      record {
        no_back = All-from_each (λ e. is_back e ≡ false) joined.entries backs;
        over = over_at_end over (tree_seen w) 1 x k.finished legal (none_out_at_end none_before_all)
            (All-from_each (λ e. is_back e ≡ false) k.finished.rest (right_part
            (λ e. is_back e ≡ false) k.es k.finished.rest
            (subst (Each (λ e. is_back e ≡ false)) rest backs)))
            (told_over (slice_index_or after 0 d).end x (other 0 (omega (arith, some))) k.ends);
      }
    where
      length-ends : length (map (λ (j : Job). j.end) after) ≡ length after
      length-ends = length-map after (λ (j : Job). j.end)

      all_at : (i : ℕ) → i < workers → slice_index_or (map (λ (j : Job). j.end) after) i Done ≢
          Memory
      all_at i l = all i Done (omega (arith, length-ends, count, count_after, l))

      own_entries : (seat : ℕ) → 1 ≤ seat → seat ≤ workers
          → Each (λ e. is_back e ≡ false) (entries_by seat_of seat joined.entries)
      own_entries zero one few = absurd (omega (arith, one))
      own_entries (suc i) one few =
          let l : i < workers = omega (arith, few) in
          let o = orderly_at_end i Done l (all_at i l) in
          let same : i + 1 ≡ suc i = omega arith in
          let here : All (λ e. is_back e ≡ false)
          (entries_by seat_of (suc i) (v.seen ++ joined.entries)) =
          subst (λ (n : ℕ). All (λ e. is_back e ≡ false) (entries_by seat_of n
          (v.seen ++ joined.entries))) same
          (subst (λ h. All (λ e. is_back e ≡ false) (entries_by seat_of (i + 1) h))
          joined.seen o.no_back) in
          right_part (λ e. is_back e ≡ false) (entries_by seat_of (suc i) v.seen)
          (entries_by seat_of (suc i) joined.entries)
          (subst (Each (λ e. is_back e ≡ false)) (entries_by-append seat_of (suc i) v.seen
          joined.entries) (Each-from_all (λ e. is_back e ≡ false)
          (entries_by seat_of (suc i) (v.seen ++ joined.entries)) here))

  pub have_ended : HasNoneOut v.seen → HasNoneByWorkers workers v.seen → 1 ≤ workers
      → HaveEnded workers v (map (λ (j : Job). j.end) after) w
  have_ended none none_by some =
      record {
        count = length-map after (λ (j : Job). j.end) ∙ (count_after ∙ count);
        number = joined.number;
        base = joined.base;
        given = joined.given;
        joined = joined.joined ∙ ap (λ n. length v.ended + n) (count_after ∙ count);
        entries = joined.entries;
        seen = joined.seen;
        by_workers = joined.from_given;
        none_out = none_out_at_end none;
        orderly = orderly_at_end;
        closed = closed_at_end none none_by some;
      }

-- a job, where there are some
pub some_job : (jobs : List Job) → 0 < length jobs → Job
some_job [] some = absurd (omega (arith, some))
some_job (j ∷ jobs) some = j
