-- The search by many seats, wound up by seat 0.
use Rattle.std.proofs.Common.{◌≡◌, ◌≢◌, ℕ, zero, suc, ◌+◌, ◌≤◌, List, [], ◌∷◌, ◌++◌, length, refl}
use Rattle.std.proofs.Common.{ap, sym, ◌∙◌, subst, arith, false, All, Ok, Err, append-nil}
use Rattle.std.specs.Prelude.{reverse, IfOk, OnErr}
use Rattle.std.proofs.lemmas.List.{reverse-reverse}
use Rattle.std.specs.declared.result.Result.{Result}
use Rattle.bl_problem.specs.Program.{Program}
use Rattle.bl_problem.specs.declared.cut.Cut.{Cut}
use Rattle.bl_desc.specs.declared.desc.Desc.{Desc}
use Rattle.bl_journal.specs.declared.entry.Entry.{Entry}
use Rattle.bl_journal.specs.declared.settings.Settings.{Settings}
use Rattle.bl_journal.specs.States.{state_of}
use Rattle.bl_journal.specs.Replies.{is_out}
use Rattle.bl_journal.specs.Legality.{seat_of, IsLegalPast}
use Rattle.bl_journal.specs.Tidying.{IsUpkeepBy, IsTidied}
use Rattle.bl_journal.proofs.Living.{Each, Each-append, Each-weaken}
use Rattle.bl_journal.proofs.Workable.{Each-from_all, All-from_each}
use Rattle.bl_journal.proofs.Upkeep.{untouched, upkeep_seat, tidied_none}
use Rattle.bl_branch.specs.declared.place.Place.{Place}
use Rattle.bl_tree.specs.Views.{TreeView, past_of, IsLegalTree}
use Rattle.bl_turn.specs.Entries.{FromOneTo}
use Rattle.bl_shared.specs.Calls.{Knows, tree_seen, base_in, first_seat}
use Rattle.bl_journal.specs.Seats.{is_back, IsOver}
use Rattle.bl_journal.proofs.Others.{All-reverse}
use Rattle.bl_journal.proofs.Endings.{ends_over}
use Rattle.bl_search.specs.Places.{SplitsAt}
use Rattle.bl_search.specs.Searches.{IsFreed}
use Rattle.bl_search.proofs.Tidying.{at_new, each_upkeep}
use Rattle.bl_worker.specs.declared.worker.WorkerEnd.{WorkerEnd}
use Rattle.bl_worker.specs.declared.worker.WorkerEnd.TheVariants.{Done, Memory}
use Rattle.bl_worker.specs.Splits.{SplitsBy}
use Rattle.bl_worker.specs.Loops.{IsQuiet}
use Rattle.bl_worker.specs.Ends.{HaveEnded, SplitByWorkersAt}
use Rattle.bl_worker.specs.Searches.{IsWorkedThrough, IsWoundUp}
use Rattle.bl_worker.proofs.Rounds.{tidied_quiet, upkeep_back}

-- whether the workers ran or not, all seats that were given are taken in
pub all_taken_in : {E F : Type 0} (items : E → List WorkerEnd) (v w : Knows) (workers : ℕ)
    (r : Result E F) → IfOk r (λ ends. HaveEnded workers v (items ends) w) → OnErr r (w ≡ v)
    → v.given ≡ 0 → v.ended ≡ [] → length w.ended ≡ w.given
all_taken_in items v w workers (Ok ends) h e none empty =
    let n : length v.ended ≡ 0 = ap length empty in
    let j = h.joined in
    let g = h.given in
    omega (arith, n, j, g)
all_taken_in items v w workers (Err x) h e none empty = ap (λ (u : Knows). length u.ended) e
    ∙ (ap length empty ∙ (sym none ∙ sym (ap (λ (u : Knows). u.given) e)))

pub still_first : {E F : Type 0} (items : E → List WorkerEnd) (v w : Knows) (workers : ℕ)
    (r : Result E F) → IfOk r (λ ends. HaveEnded workers v (items ends) w) → OnErr r (w ≡ v)
    → v.number ≡ 0 → w.number ≡ 0
still_first items v w workers (Ok ends) h e first = h.number ∙ first
still_first items v w workers (Err x) h e first = ap (λ (u : Knows). u.number) e ∙ first

-- each entry is a worker's, and each worker splits at allowed places
all_placed : (P : Desc Cut → Place → Type 0) (p : Program) (workers : ℕ) (past : List Entry)
    → Each (λ e. (1 ≤ seat_of e) × (seat_of e ≤ workers)) past
    → ((seat : ℕ) → 1 ≤ seat → seat ≤ workers → SplitsBy seat P p past) → SplitsAt P p past
all_placed P p workers [] few own = tt
all_placed P p workers (e ∷ past) few own = (
  (own (seat_of e) few.0.0 few.0.1).0 refl,
  all_placed P p workers past few.1
      (λ seat some most. (own seat some most).1),
)

-- the history of a new tree, once its workers have ended
module _ (tree : TreeView) (w : Knows) (workers : ℕ) (ends : List WorkerEnd)
    (fresh : tree.history ≡ []) (h : HaveEnded workers (first_seat tree) ends w) where
  all_theirs : FromOneTo seat_of workers w.seen
  all_theirs = subst (FromOneTo seat_of workers) (sym (h.seen ∙ ap (λ l. l ++ h.entries) fresh))
      h.by_workers

  pub worked_through : All (λ end. end ≢ Memory) ends → IsWorkedThrough workers tree (tree_seen w)
  worked_through all =
      record {
        problem = ap (λ b. (base_in b).problem) h.base;
        settings = ap (λ b. (base_in b).settings) h.base;
        by_workers = all_theirs;
        none_out = h.none_out;
        tidied = tidied;
        over = (h.closed all).over;
      }
    where
      tidied : (seat : ℕ) → 1 ≤ seat → seat ≤ workers
          → IsTidied (tree_seen w).problem (tree_seen w).settings seat (past_of (tree_seen w))
      tidied zero some few = absurd (omega (arith, some))
      tidied (suc i) some few =
          let n = h.count in
          let same : i + 1 ≡ suc i = omega arith in
          subst (λ (k : ℕ). IsTidied (tree_seen w).problem (tree_seen w).settings k
          (past_of (tree_seen w))) same
          (h.orderly i Done (omega (arith, few)) (all i Done (omega (arith, few, n)))).tidied

  pub placed_through : (P : Desc Cut → Place → Type 0) → SplitByWorkersAt workers P (tree_seen w)
      → SplitsAt P (tree_seen w).problem (past_of (tree_seen w))
  placed_through P own =
      all_placed P (tree_seen w).problem workers (past_of (tree_seen w))
      (Each-from_all (λ e. (1 ≤ seat_of e) × (seat_of e ≤ workers)) (reverse w.seen)
      (All-reverse (λ e. (1 ≤ seat_of e) × (seat_of e ≤ workers)) w.seen all_theirs)) own

-- then seat 0 frees what may be freed
module _ (workers : ℕ) (fresh old new : TreeView) (t : IsWorkedThrough workers fresh old)
    (legal : IsLegalTree new) (f : IsFreed old new) where
  by_seat_zero : Each (IsUpkeepBy 0) f.kept_up.entries
  by_seat_zero = each_upkeep old new f.kept_up

  workers_past : Each (λ e. (1 ≤ seat_of e) × (seat_of e ≤ workers)) (past_of old)
  workers_past = Each-from_all (λ e. (1 ≤ seat_of e) × (seat_of e ≤ workers)) (past_of old)
      (All-reverse (λ e. (1 ≤ seat_of e) × (seat_of e ≤ workers)) old.history t.by_workers)

  none_out_yet : (id : ℕ) → is_out (state_of (f.kept_up.entries ++ past_of old) id) ≡ false
  none_out_yet id =
      (untouched old.problem 0 (past_of old) f.kept_up.entries by_seat_zero).none_out id
      (t.none_out id)

  few_past : All (λ e. seat_of e ≤ workers) (past_of new)
  few_past =
      subst (All (λ e. seat_of e ≤ workers)) (sym f.kept_up.past)
      (All-from_each (λ e. seat_of e ≤ workers) (f.kept_up.entries ++ past_of old)
      (Each-append (λ e. seat_of e ≤ workers) f.kept_up.entries (past_of old)
      (Each-weaken (IsUpkeepBy 0) (λ e. seat_of e ≤ workers)
      (λ e u. let z = upkeep_seat 0 e u in omega (arith, z)) f.kept_up.entries by_seat_zero)
      (Each-weaken (λ e. (1 ≤ seat_of e) × (seat_of e ≤ workers)) (λ e. seat_of e ≤ workers)
      (λ e k. k.1) (past_of old) workers_past)))

  -- seat 0 split nothing
  zero_tidied : IsTidied old.problem old.settings 0 (f.kept_up.entries ++ past_of old)
  zero_tidied =
      subst (IsTidied old.problem old.settings 0) (append-nil (f.kept_up.entries ++ past_of old))
      (tidied_quiet old.problem old.settings 0 (f.kept_up.entries ++ past_of old) []
      (tidied_none old.problem old.settings 0)
      (Each-append (IsQuiet 0) f.kept_up.entries (past_of old)
      (Each-weaken (IsUpkeepBy 0) (IsQuiet 0) (λ e u same. u) f.kept_up.entries by_seat_zero)
      (Each-weaken (λ e. (1 ≤ seat_of e) × (seat_of e ≤ workers)) (IsQuiet 0)
      (λ e k same. let some = k.0 in absurd (omega (arith, some, same))) (past_of old)
      workers_past)))

  each_tidied : (seat : ℕ) → seat ≤ workers
      → IsTidied old.problem old.settings seat (f.kept_up.entries ++ past_of old)
  each_tidied zero few = zero_tidied
  each_tidied (suc i) few =
      tidied_quiet old.problem old.settings (suc i) f.kept_up.entries (past_of old)
      (t.tidied (suc i) (omega arith) few)
      (Each-weaken (IsUpkeepBy 0) (IsQuiet (suc i)) (λ e u same. let z =
      upkeep_seat 0 e u in absurd (omega (arith, z, same))) f.kept_up.entries by_seat_zero)

  pub wound_up : IsWoundUp workers new
  wound_up =
      record {
        few = subst (All (λ e. seat_of e ≤ workers)) (reverse-reverse new.history)
            (All-reverse (λ e. seat_of e ≤ workers) (past_of new) few_past);
        none_out = λ id. ap (λ h. is_out (state_of h id)) f.kept_up.past ∙ none_out_yet id;
        tidied = λ seat le. at_new (λ p s h. IsTidied p s seat h) old new f.kept_up
            (each_tidied seat le);
        nothing_to_free = f.nothing_to_free;
        over = at_new (λ p s h. IsOver p s h) old new f.kept_up
            (ends_over old.problem old.settings f.kept_up.entries (past_of old)
            (legal_entries f.kept_up.problem f.kept_up.settings) none_out_yet
            (Each-weaken (IsUpkeepBy 0) (λ e. is_back e ≡ false) (upkeep_back 0) f.kept_up.entries
            by_seat_zero) t.over);
      }
    where
      legal_entries : new.problem ≡ old.problem → new.settings ≡ old.settings
          → IsLegalPast old.problem old.settings (f.kept_up.entries ++ past_of old)
      legal_entries same_problem same_settings =
          subst (λ (p : Program). IsLegalPast p old.settings (f.kept_up.entries ++ past_of old))
          same_problem
          (subst (λ (s : Settings). IsLegalPast new.problem s (f.kept_up.entries ++ past_of old))
          same_settings (subst (IsLegalPast new.problem new.settings) f.kept_up.past
          legal.steps))
