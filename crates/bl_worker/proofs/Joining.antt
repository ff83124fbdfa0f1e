-- How the workers' seats are split and taken in.
use Rattle.std.proofs.Common.{◌≡◌, ℕ, ◌+◌, ◌<◌, ◌≤◌, List, [], ◌∷◌, ◌++◌, length, refl, ap, sym}
use Rattle.std.proofs.Common.{◌∙◌, subst, arith, inl, inr, ◌⊎◌, All, append_assoc, append-nil}
use Rattle.std.proofs.Common.{length-append, get_or, take, drop}
use Rattle.std.specs.Prelude.{Contains, slice_index_or}
use Rattle.std.proofs.lemmas.Bool.{cases_lt}
use Rattle.std.proofs.lemmas.List.{get_or_append_left, get_or-append-add, take_all, drop_all}
use Rattle.std.proofs.lemmas.List.Elements.{All-cons, All-append, All-nil, All-contains}
use Rattle.std.proofs.lemmas.List.Elements.{Contains-append_left, Contains-push}
use Rattle.bl_problem.specs.Program.{Program}
use Rattle.bl_journal.specs.declared.entry.Entry.{Entry}
use Rattle.bl_journal.specs.Legality.{seat_of}
use Rattle.bl_turn.specs.Entries.{entries_by, FromOneTo, BeginsWith}
use Rattle.bl_turn.specs.Views.{new_view, split_view, joined_view}
use Rattle.bl_turn.specs.Seats.{view_of}
use Rattle.bl_shared.specs.declared.shared.SharedTree.{SharedTree}
use Rattle.bl_shared.specs.Calls.{Knows, IsSeatOf, tree_seen}
use Rattle.bl_worker.specs.declared.run.Job.{Job}
use Rattle.bl_worker.specs.Jobs.{first_of_worker, IsWorkerSeat, AreWorkerSeats, IsReady, HaveJoined}
use Rattle.bl_worker.specs.Ends.{HasNoneByWorkers}
use Rattle.bl_worker.proofs.Ending.{fresh_worker}

-- seat 0 after one more split
pub split_on : (v w x : Knows) (n : ℕ) → w ≡ record v { given = n } → x ≡ split_view w → x
    ≡ record v { given = n + 1 }
split_on v w x n before is = is ∙ ap split_view before

-- no seat was split yet
pub no_seats : (t : SharedTree) (v : Knows) → AreWorkerSeats t v []
no_seats t v i d l = absurd (omega (arith, l))

-- one more seat was split
pub one_more_seat : (t : SharedTree) (v w : Knows) (jobs : List Job) (job : Job) → w
    ≡ record v { given = length jobs } → AreWorkerSeats t v jobs → IsSeatOf t job.seat
    → view_of job.seat ≡ new_view seat_of w → AreWorkerSeats t v (jobs ++ job ∷ [])
one_more_seat t v w jobs job given seats here is i d l = by_case (cases_lt i (length jobs))
  where
    by_case : (i < length jobs) ⊎ (length jobs ≤ i)
        → IsWorkerSeat t v (i + 1) (slice_index_or (jobs ++ job ∷ []) i d)
    by_case (inl inside) = subst (IsWorkerSeat t v (i + 1))
        (sym (get_or_append_left jobs (job ∷ []) d i inside)) (seats i d inside)
    by_case (inr last) =
        let size = length-append jobs (job ∷ []) in
        let same : i ≡ length jobs + 0 = omega (arith, last, l, size) in
        let there : slice_index_or (jobs ++ job ∷ []) i d ≡ job =
        ap (λ n. get_or (jobs ++ job ∷ []) n d) same ∙ get_or-append-add jobs (job ∷ []) 0 d in
        let number : length jobs + 1 ≡ i + 1 = omega (arith, same) in
        let knows : view_of job.seat ≡ first_of_worker v (length jobs + 1) =
        is ∙ ap (new_view seat_of) given in
        subst (IsWorkerSeat t v (i + 1)) (sym there)
        (record {
          seat = here;
          knows =
              subst (λ n. view_of job.seat ≡ first_of_worker v n) number knows;
        })

-- the workers may begin
pub all_ready : (t : SharedTree) (v : Knows) (workers : ℕ) (jobs : List Job) (p : Program)
    (span : ℕ) → AreWorkerSeats t v jobs → length jobs ≡ workers → HasNoneByWorkers workers v.seen
    → (tree_seen v).problem ≡ p → (tree_seen v).settings.span ≡ span → All (IsReady t p span) jobs
all_ready t v workers jobs p span seats count none problem same = λ i d l.
    let k = seats i d l in
    record {
      seat = k.seat;
      problem = ap (λ (u : Knows). (tree_seen u).problem) k.knows ∙ problem;
      span_is = ap (λ (u : Knows). (tree_seen u).settings.span) k.knows ∙ same;
      fresh = ap (λ (u : Knows). u.mine) k.knows
          ∙ fresh_worker workers (i + 1) v none (omega arith) (omega (arith, l, count));
    }

-- Of these seats all but those that are left were taken in
pub record Joining (v : Knows) (all left : List Job) (w : Knows) : Type 0 where
  pub done : List Job
  pub parts : all ≡ left ++ done
  pub joined : HaveJoined v done w
  pub listed : All (λ (j : Job). Contains w.ended
      ((view_of j.seat).number, (view_of j.seat).mine)) done

pub none_joined : (v : Knows) (all : List Job) → Joining v all all v
none_joined v all =
    record {
      done = [];
      parts = sym (append-nil all);
      joined = record {
        number = refl;
        base = refl;
        given = refl;
        entries = [];
        seen = sym (append-nil v.seen);
        from_given = All-nil (λ (e : Entry). (1 ≤ seat_of e) × (seat_of e ≤ v.given));
        met = All-nil (λ (j : Job). BeginsWith v.seen (view_of j.seat).seen);
        own = All-nil (λ (j : Job). entries_by seat_of (view_of j.seat).number v.seen
            ≡ (view_of j.seat).mine);
        joined = omega arith;
      };
      listed = All-nil (λ (j : Job). Contains v.ended
          ((view_of j.seat).number, (view_of j.seat).mine));
    }

pub one_joined : (v w x : Knows) (all before left : List Job) (job : Job) → before ≡ left ++ job
    ∷ [] → Joining v all before w → x ≡ joined_view w (view_of job.seat)
    → (es : List Entry) → x.seen ≡ w.seen ++ es → FromOneTo seat_of w.given es
    → BeginsWith x.seen (view_of job.seat).seen
    → All (λ p. entries_by seat_of p.0 x.seen ≡ p.1) x.ended → Joining v all left x
one_joined v w x all before left job popped k is es seen from met own =
    record {
      done = job ∷ k.done;
      parts = k.parts ∙ (ap (λ l. l ++ k.done) popped ∙ append_assoc left (job ∷ []) k.done);
      joined = record {
        number = ap (λ (u : Knows). u.number) is ∙ k.joined.number;
        base = ap (λ (u : Knows). u.base) is ∙ k.joined.base;
        given = ap (λ (u : Knows). u.given) is ∙ k.joined.given;
        entries = k.joined.entries ++ es;
        seen = seen ∙ (ap (λ h. h ++ es) k.joined.seen ∙ append_assoc v.seen k.joined.entries es);
        from_given = All-append (λ (e : Entry). (1 ≤ seat_of e) × (seat_of e ≤ v.given))
            k.joined.entries es k.joined.from_given
            (subst (λ (n : ℕ). FromOneTo seat_of n es) k.joined.given from);
        met = All-cons (λ (j : Job). BeginsWith x.seen (view_of j.seat).seen) job k.done met
            (λ i d l. let m = k.joined.met i d l in (
              m.0 ++ es,
              seen ∙ (ap (λ h. h ++ es) m.1
                  ∙ append_assoc (view_of (get_or k.done i d).seat).seen m.0 es),
            ));
        own = λ i d l. All-contains (λ p. entries_by seat_of p.0 x.seen ≡ p.1) x.ended (
          (view_of (get_or (job ∷ k.done) i d).seat).number,
          (view_of (get_or (job ∷ k.done) i d).seat).mine,
        ) own (all_listed i d l);
        joined = ap length ended ∙ (length-append w.ended (pair job ∷ [])
            ∙ (let before_it : length w.ended ≡ length v.ended + length k.done =
            k.joined.joined in omega (arith, before_it)));
      };
      listed = all_listed;
    }
  where
    pair : Job → ℕ × List Entry
    pair j = ((view_of j.seat).number, (view_of j.seat).mine)

    ended : x.ended ≡ w.ended ++ ((view_of job.seat).number, (view_of job.seat).mine) ∷ []
    ended = ap (λ (u : Knows). u.ended) is

    all_listed : All (λ (j : Job). Contains x.ended
        ((view_of j.seat).number, (view_of j.seat).mine)) (job ∷ k.done)
    all_listed =
        All-cons (λ (j : Job). Contains x.ended ((view_of j.seat).number, (view_of j.seat).mine))
        job k.done
        (subst (λ l. Contains l (pair job)) (sym ended) (Contains-push w.ended (pair job)))
        (λ i d l. subst (λ h. Contains h (pair (get_or k.done i d))) (sym ended)
        (Contains-append_left w.ended (pair job ∷ []) (pair (get_or k.done i d))
        (k.listed i d l)))

-- all were taken in
pub all_joined : (v w : Knows) (all left : List Job) → length left ≡ 0 → Joining v all left w
    → HaveJoined v all w
all_joined v w all [] none k = subst (λ (jobs : List Job). HaveJoined v jobs w) (sym k.parts)
    k.joined
all_joined v w all (j ∷ left) none k = absurd (omega (arith, none))

-- what holds of each job holds of the last one, and of those before it
pub last_of : (P : Job → Type 0) (xs : List Job) (j : Job) → All P (xs ++ j ∷ []) → P j
last_of P xs j a = subst P (get_or-append-add xs (j ∷ []) 0 j)
    (a (length xs + 0) j (let n = length-append xs (j ∷ []) in omega (arith, n)))

pub but_last : (P : Job → Type 0) (xs : List Job) (j : Job) → All P (xs ++ j ∷ []) → All P xs
but_last P xs j a = λ i d l. subst P (get_or_append_left xs (j ∷ []) d i l)
    (a i d (let n = length-append xs (j ∷ []) in omega (arith, n, l)))

-- what is written back to all places of a list
pub written_back : (n : ℕ) (xs ys : List Job) → length xs ≡ n → length ys ≡ n
    → take n (xs ++ drop (length xs) ys) ≡ xs
written_back n xs ys a b =
    ap (λ l. take n (xs ++ l)) (drop_all (length xs) ys (omega (arith, a, b)))
    ∙ (ap (take n) (append-nil xs) ∙ take_all n xs (omega (arith, a)))
