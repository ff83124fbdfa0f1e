-- A turn of the search: a take, and the put of an outcome.
use Rattle.std.proofs.Common.{◌≡◌, ℕ, zero, suc, ◌+◌, ◌%◌, ◌≤◌, List, [], ◌∷◌, ◌++◌, length, refl}
use Rattle.std.proofs.Common.{ap, sym, ◌∙◌, subst, arith, Bool, true, false, cond, Option, Some}
use Rattle.std.proofs.Common.{None, All}
use Rattle.std.specs.Prelude.{◌==◌, IfSome}
use Rattle.std.proofs.lemmas.Bool.{true≢false}
use Rattle.bl_problem.specs.Program.{Program}
use Rattle.bl_journal.specs.declared.entry.Entry.{Entry}
use Rattle.bl_journal.specs.declared.entry.Entry.TheVariants.{Take}
use Rattle.bl_journal.specs.declared.entry.Step.{Step}
use Rattle.bl_journal.specs.declared.entry.Step.TheVariants.{Shut as ShutStep, Split as SplitStep}
use Rattle.bl_journal.specs.declared.outcome.Outcome.{Outcome}
use Rattle.bl_journal.specs.declared.outcome.Next.{Next}
use Rattle.bl_journal.specs.declared.outcome.Next.TheVariants.{Shut, Split}
use Rattle.bl_journal.specs.declared.settings.Settings.{Settings}
use Rattle.bl_journal.specs.States.{state_of, put_state, used_of}
use Rattle.bl_journal.specs.declared.state.State.TheVariants.{Out as out}
use Rattle.bl_journal.specs.Births.{nodes_of}
use Rattle.bl_journal.specs.Replies.{is_out, any_below, any_out, take_reply, reply_for, next_of}
use Rattle.bl_journal.specs.Replies.{idle}
use Rattle.bl_journal.specs.Legality.{seat_of}
use Rattle.bl_journal.specs.Tidying.{IsUpkeepBy, is_split, splits_of, IsDue, WasSettled, IsTidied}
use Rattle.bl_journal.proofs.Living.{Each, Each-append, Each-weaken}
use Rattle.bl_journal.proofs.Workable.{Each-from_all, All-from_each}
use Rattle.bl_journal.proofs.Upkeep.{IsUntouched, untouched, upkeep_seat, BothSettled}
use Rattle.bl_journal.proofs.Upkeep.{tidied_none, tidied_on, tidied_upkeep, tidied_round}
use Rattle.bl_tree.specs.declared.answer.Born.{Born}
use Rattle.bl_tree.specs.Views.{TreeView, LeaseView, past_of, extended, put_entry, step_of}
use Rattle.bl_tree.specs.Answers.{born_count, born_for}
use Rattle.bl_search.specs.Searches.{IsBetweenTurns, HasWorked, PutsIn, IsFreed, HasTidied}
use Rattle.bl_search.specs.Searches.{count_with}
use Rattle.bl_journal.proofs.Growth.{reverse-push}
use Rattle.bl_search.proofs.Tidying.{at_new, each_upkeep}

none_below : (test : ℕ → Bool) (n : ℕ) → ((i : ℕ) → test i ≡ false) → any_below test n ≡ false
none_below test zero h = refl
none_below test (suc n) h = let ih : any_below test n ≡ false =
    none_below test n h in let e : test n ≡ false = h n in cc

idle_reply : (o : Option ℕ) (left : Bool) (someone : Bool) → someone ≡ false
    → reply_for o left someone ≡ idle → ⊥
idle_reply None left true e h = true≢false e
idle_reply None left false e h = cc
idle_reply (Some i) true someone e h = cc
idle_reply (Some i) false someone e h = cc

-- where no node is out, no take is answered Idle
pub not_idle : (t : TreeView) → IsBetweenTurns t → take_reply t.problem t.settings (past_of t)
    ≡ idle → ⊥
unfolding take_reply
not_idle t b h =
    idle_reply (next_of t.problem t.settings (past_of t)) _ (any_out t.problem (past_of t))
    (none_below (λ id. is_out (state_of (past_of t) id)) (length (nodes_of t.problem (past_of t)))
    b.none_out) h

put_is_over : (next : Step) → is_out (put_state next) ≡ false
put_is_over ShutStep = refl
put_is_over (SplitStep common column at) = refl

-- after a take and a put of a node no other node is out
over : (past : List Entry) (id : ℕ) (next : Step) (k : ℕ) → is_out (state_of past k) ≡ false
    → is_out (cond (id == k) (put_state next) (cond (id == k) (out 0) (state_of past k))) ≡ false
over past id next k h = by_test (id == k)
  where
    by_test : (b : Bool) → is_out (cond b (put_state next) (cond b (out 0) (state_of past k)))
        ≡ false
    by_test true = put_is_over next
    by_test false = h

-- the two nodes that a put that splits bears
born_by_split : (t : TreeView) (next : Next) → is_split (step_of next) ≡ true → born_for t next
    ≡ Some (record { left = born_count t; right = born_count t + 1 })
born_by_split t Shut e = absurd (true≢false (sym e))
born_by_split t (Split common column at left right) e = refl

-- the count after a put
count_after : (t : TreeView) (next : Next) (count n : ℕ) → count ≡ count_with n (born_for t next)
    → count ≡ cond (is_split (step_of next)) (n + 1) n
count_after t Shut count n e = e
count_after t (Split common column at left right) count n e = e

count_grows : (b : Bool) (n : ℕ) → cond b (n + 1) n ≤ n + 1
count_grows true n = omega arith
count_grows false n = omega arith

-- what a turn does, told from the tree before it
record IsTurn (old : TreeView) (id : ℕ) (outcome : Outcome) (count : ℕ) (new : TreeView) : Type 0
  where
    between : IsBetweenTurns old
    counted : count ≡ count_with (splits_of 0 (past_of old))
        (born_for (extended old (Take 0 id)) outcome.next)
    tidied : HasTidied (extended (extended old (Take 0 id)) (put_entry 0 id outcome))
        (born_for (extended old (Take 0 id)) outcome.next) count new

turned : (old : TreeView) (id : ℕ) (outcome : Outcome)
    → past_of (extended (extended old (Take 0 id)) (put_entry 0 id outcome))
    ≡ put_entry 0 id outcome ∷ Take 0 id ∷ past_of old
turned old id outcome =
    reverse-push (old.history ++ Take 0 id ∷ []) (put_entry 0 id outcome)
    ∙ ap (λ h. put_entry 0 id outcome ∷ h) (reverse-push old.history (Take 0 id))

-- both children of a split that is due are settled
both_settled : (old : TreeView) (id : ℕ) (outcome : Outcome) (count : ℕ) (new : TreeView)
    (w : IsTurn old id outcome count new)
    → IsDue 0 (put_entry 0 id outcome) (Take 0 id ∷ past_of old)
    → BothSettled old.problem old.settings 0 w.tidied.kept_up.entries (put_entry 0 id outcome)
    (Take 0 id ∷ past_of old)
both_settled old id outcome count new w due = (
  subst (λ h. WasSettled old.problem old.settings 0 entries h n) (turned old id outcome)
      (left fourth),
  subst (λ h. WasSettled old.problem old.settings 0 entries h (n + 1)) (turned old id outcome)
      (right fourth),
)
  where
    entries : List Entry
    entries = w.tidied.kept_up.entries

    n : ℕ
    n = length (nodes_of old.problem (past_of old))

    same : born_count (extended old (Take 0 id)) ≡ length (nodes_of old.problem (past_of old))
    same = ap (λ h. length (nodes_of old.problem h)) (reverse-push old.history (Take 0 id))

    born : born_for (extended old (Take 0 id)) outcome.next
        ≡ Some (record {
          left = length (nodes_of old.problem (past_of old));
          right =
              length (nodes_of old.problem (past_of old)) + 1;
        })
    born = born_by_split (extended old (Take 0 id)) outcome.next due.split
        ∙ ap (λ k. Some (record { left = k; right = k + 1 })) same

    fourth : count % 4 ≡ 0
    fourth = ap (λ k. k % 4) (w.counted ∙ ap (count_with (splits_of 0 (past_of old))) born)
        ∙ due.fourth

    left : count % 4 ≡ 0 → WasSettled old.problem old.settings 0 w.tidied.kept_up.entries
        (past_of (extended (extended old (Take 0 id)) (put_entry 0 id outcome)))
        (length (nodes_of old.problem (past_of old)))
    left = subst (λ (o : Option Born). IfSome o (λ b. count % 4 ≡ 0
        → WasSettled old.problem old.settings 0 w.tidied.kept_up.entries
        (past_of (extended (extended old (Take 0 id)) (put_entry 0 id outcome))) b.left)) born
        w.tidied.left

    right : count % 4 ≡ 0 → WasSettled old.problem old.settings 0 w.tidied.kept_up.entries
        (past_of (extended (extended old (Take 0 id)) (put_entry 0 id outcome)))
        (length (nodes_of old.problem (past_of old)) + 1)
    right = subst (λ (o : Option Born). IfSome o (λ b. count % 4 ≡ 0
        → WasSettled old.problem old.settings 0 w.tidied.kept_up.entries
        (past_of (extended (extended old (Take 0 id)) (put_entry 0 id outcome))) b.right)) born
        w.tidied.right

worked : (old : TreeView) (id : ℕ) (outcome : Outcome) (count : ℕ) (new : TreeView)
    → IsTurn old id outcome count new → HasWorked old count new
worked old id outcome count new w =
    record {
      between = record {
        none_out = λ k. ap (λ h. is_out (state_of h k)) past
            ∙ kept.none_out k (over (past_of old) id (step_of outcome.next) k
            (w.between.none_out k));
        nothing_to_free = w.tidied.nothing_to_free;
        tidied = at_put (λ p s h. IsTidied p s 0 h)
            (tidied_round old.problem old.settings 0 (Take 0 id ∷ past_of old) put entries
            (tidied_on old.problem old.settings 0 (past_of old) (Take 0 id) w.between.tidied
            (λ due. true≢false (sym due.split))) upkeep
            (both_settled old id outcome count new w));
        seats = subst (All (λ (e : Entry). seat_of e ≡ 0)) (sym past)
            (All-from_each (λ (e : Entry). seat_of e ≡ 0) (entries ++ put ∷ Take 0 id ∷ past_of old)
            (Each-append (λ (e : Entry). seat_of e ≡ 0) entries (put ∷ Take 0 id ∷ past_of old)
            (Each-weaken (IsUpkeepBy 0) (λ (e : Entry). seat_of e ≡ 0) (upkeep_seat 0) entries
            upkeep) (
              refl,
              (
                refl,
                Each-from_all (λ (e : Entry). seat_of e ≡ 0) (past_of old)
                    w.between.seats,
              ),
            )));
      };
      problem = w.tidied.kept_up.problem;
      settings = w.tidied.kept_up.settings;
      used = ap used_of past ∙ kept.used;
      count_is = count_is ∙ sym (ap (splits_of 0) past ∙ kept.splits);
      count_grew = subst (λ (k : ℕ). k ≤ splits_of 0 (past_of old) + 1) (sym count_is)
          (count_grows (is_split (step_of outcome.next)) (splits_of 0 (past_of old)));
    }
  where
    entries : List Entry
    entries = w.tidied.kept_up.entries

    put : Entry
    put = put_entry 0 id outcome

    upkeep : Each (IsUpkeepBy 0) w.tidied.kept_up.entries
    upkeep = each_upkeep (extended (extended old (Take 0 id)) (put_entry 0 id outcome)) new
        w.tidied.kept_up

    past : past_of new ≡ w.tidied.kept_up.entries ++ put_entry 0 id outcome ∷ Take 0 id
        ∷ past_of old
    past = w.tidied.kept_up.past ∙ ap (λ h. w.tidied.kept_up.entries ++ h) (turned old id outcome)

    kept : IsUntouched old.problem 0 (put_entry 0 id outcome ∷ Take 0 id ∷ past_of old)
        (w.tidied.kept_up.entries ++ put_entry 0 id outcome ∷ Take 0 id ∷ past_of old)
    kept = untouched old.problem 0 (put_entry 0 id outcome ∷ Take 0 id ∷ past_of old)
        w.tidied.kept_up.entries upkeep

    count_is : count ≡ cond (is_split (step_of outcome.next)) (splits_of 0 (past_of old) + 1)
        (splits_of 0 (past_of old))
    count_is = count_after (extended old (Take 0 id)) outcome.next count
        (splits_of 0 (past_of old)) w.counted

    at_put : (P : Program → Settings → List Entry → Type 0)
        → P old.problem old.settings (w.tidied.kept_up.entries ++ put_entry 0 id outcome
        ∷ Take 0 id ∷ past_of old) → P new.problem new.settings (past_of new)
    at_put P x =
        at_new P (extended (extended old (Take 0 id)) (put_entry 0 id outcome)) new w.tidied.kept_up
        (subst (λ (h : List Entry). P old.problem old.settings (w.tidied.kept_up.entries ++ h))
        (sym (turned old id outcome)) x)

-- after a take, a put and the tidying the search is between turns again
pub has_worked : (old mid put new : TreeView) (lease : LeaseView) (born : Option Born)
    (splits count : ℕ) → IsBetweenTurns old → splits ≡ splits_of 0 (past_of old) → mid
    ≡ extended old (Take 0 lease.id)
    → PutsIn mid lease born put → count ≡ count_with splits born → HasTidied put born count new
    → HasWorked old count new
has_worked old mid put new lease born splits count between is m w counted tidied =
    worked old lease.id w.outcome count new (record {
      between = between;
      counted = counted ∙ (ap (count_with splits) same
          ∙ ap (λ n. count_with n (born_for (extended old (Take 0 lease.id)) w.outcome.next)) is);
      tidied = subst (λ (b : Option Born). HasTidied
          (extended (extended old (Take 0 lease.id)) (put_entry 0 lease.id w.outcome)) b count
          new) same
          (subst (λ (t : TreeView). HasTidied t born count new)
          (w.is ∙ ap (λ (t : TreeView). extended t (put_entry 0 lease.id w.outcome)) m) tidied);
    })
  where
    same : born ≡ born_for (extended old (Take 0 lease.id)) w.outcome.next
    same = w.born_is ∙ ap (λ (t : TreeView). born_for t w.outcome.next) m

-- nothing is used yet, and no put has split
pub record StartsWell (s : Settings) (p : Program) (new : TreeView) : Type 0 where
  pub between : IsBetweenTurns new
  pub problem : new.problem ≡ p
  pub settings : new.settings ≡ s
  pub used : used_of (past_of new) ≡ 0
  pub splits : splits_of 0 (past_of new) ≡ 0

-- a new tree whose root is freed where it is not live is between turns
pub starts : (p : Program) (s : Settings) (new : TreeView)
    → IsFreed (record { problem = p; settings = s; history = [] }) new → StartsWell s p new
starts p s new f =
    record {
      between = record {
        none_out = λ k. at_new (λ q r h. is_out (state_of h k) ≡ false) fresh new f.kept_up
            (kept.none_out k refl);
        nothing_to_free = f.nothing_to_free;
        tidied = at_new (λ q r h. IsTidied q r 0 h) fresh new f.kept_up
            (tidied_upkeep p s 0 [] f.kept_up.entries (tidied_none p s 0) upkeep);
        seats = at_new (λ q r h. All (λ (e : Entry). seat_of e ≡ 0) h) fresh new f.kept_up
            (All-from_each (λ (e : Entry). seat_of e ≡ 0) (f.kept_up.entries ++ [])
            (Each-append (λ (e : Entry). seat_of e ≡ 0) f.kept_up.entries []
            (Each-weaken (IsUpkeepBy 0) (λ (e : Entry). seat_of e ≡ 0) (upkeep_seat 0)
            f.kept_up.entries upkeep) tt));
      };
      problem = f.kept_up.problem;
      settings = f.kept_up.settings;
      used = at_new (λ q r h. used_of h ≡ 0) fresh new f.kept_up kept.used;
      splits = at_new (λ q r h. splits_of 0 h ≡ 0) fresh new f.kept_up kept.splits;
    }
  where
    fresh : TreeView
    fresh = record { problem = p; settings = s; history = [] }

    upkeep : Each (IsUpkeepBy 0) f.kept_up.entries
    upkeep = each_upkeep (record { problem = p; settings = s; history = [] }) new f.kept_up

    kept : IsUntouched p 0 [] (f.kept_up.entries ++ [])
    kept = untouched p 0 [] f.kept_up.entries upkeep
