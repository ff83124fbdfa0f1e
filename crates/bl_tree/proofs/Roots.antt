-- The root: its bounds are near, and the tree that has it alone.
use Rattle.std.proofs.Common.{◌≡◌, ℕ, zero, suc, ◌<◌, ◌≤◌, ◌^◌, List, [], ◌∷◌, length}
use Rattle.std.proofs.Common.{slice_index_or, arith, All, refl, ap, sym, ◌∙◌, subst, cond, Option}
use Rattle.std.proofs.Common.{Some, None, true, false}
use Rattle.std.specs.Prelude.{ℤ, pos, ◌≤ℤ◌, slice_get, count_by, reverse, vec_capacity, ◌&&◌}
use Rattle.bl_problem.specs.Program.{Program}
use Rattle.bl_problem.specs.Points.{own_lows, own_highs, trivial_bound_of}
use Rattle.bl_journal.specs.declared.settings.Settings.{Settings}
use Rattle.bl_journal.specs.declared.limits.TheConstants.{LARGEST_GAP, MOST_NODES, MOST_SPAN}
use Rattle.bl_journal.specs.Descriptions.{root_desc}
use Rattle.bl_tree.specs.declared.record.Record.{Record}
use Rattle.bl_pool.specs.declared.key.Key.{Key}
use Rattle.bl_pool.specs.Views.{key_in}
use Rattle.bl_tree.proofs.Queues.{queued_new}
use Rattle.std.proofs.lemmas.Bool.{or_left}
use Rattle.bl_journal.specs.Replies.{is_waiting, is_out}
use Rattle.bl_journal.specs.States.{state_of, best_of, cutoff_for}
use Rattle.bl_journal.specs.declared.entry.Entry.{Entry}
use Rattle.bl_tree.specs.Records.{root_record, record_key, IsQueued, AreQueued, AreCandidates}
use Rattle.bl_tree.specs.Records.{is_listed, IsCandidate, IsKept, StandsAt, AreRecords}
use Rattle.bl_tree.specs.Records.{IsRecordOf}
use Rattle.bl_tree.specs.Kept.{IsTree}
use Rattle.bl_tree.specs.declared.tree.Tree.TheInside.{Inside}
use Rattle.bl_tree.proofs.Covers.{IsCovered}
use Rattle.bl_tree.proofs.Stored.{stored_root}
use Rattle.bl_problem.specs.Sums.{IsWithin}
use Rattle.bl_problem.specs.Program.{IsColumn}
use Rattle.bl_problem.specs.Points.{lows_of, highs_of}
use Rattle.bl_problem.specs.declared.problem.Column.{Column}

pub lows_near : (columns : List Column) → All IsColumn columns
    → All (IsWithin (10 ^ 9)) (lows_of columns)
lows_near columns h = λ k d l. at columns h k d l
  where
    at : (columns : List Column) → All IsColumn columns → (k : ℕ) (d : ℤ) → k
        < length (lows_of columns) → IsWithin (10 ^ 9) (slice_index_or (lows_of columns) k d)
    at [] h k d l = absurd (omega (arith, l))
    at (c ∷ columns) h zero d l = (h 0 c (omega arith)).low
    at (c ∷ columns) h (suc k) d l =
        at columns (λ i e m. h (suc i) e (omega (arith, m))) k d (omega (arith, l))

pub highs_near : (columns : List Column) → All IsColumn columns
    → All (IsWithin (10 ^ 9)) (highs_of columns)
highs_near columns h = λ k d l. at columns h k d l
  where
    at : (columns : List Column) → All IsColumn columns → (k : ℕ) (d : ℤ) → k
        < length (highs_of columns) → IsWithin (10 ^ 9) (slice_index_or (highs_of columns) k d)
    at [] h k d l = absurd (omega (arith, l))
    at (c ∷ columns) h zero d l = (h 0 c (omega arith)).high
    at (c ∷ columns) h (suc k) d l =
        at columns (λ i e m. h (suc i) e (omega (arith, m))) k d (omega (arith, l))

records_root : (p : Program) (r : Record) → r
    ≡ root_record (trivial_bound_of p (own_lows p) (own_highs p)) (root_desc p)
    → AreRecords p [] (r ∷ [])
records_root p r e =
    record {
      count = refl;
      each = at;
    }
  where
    at : (id : ℕ) (q : Record) → slice_get (r ∷ []) id ≡ Some q → IsRecordOf p [] id q
    at zero q h =
        let same : r ≡ q = cc in
        subst (λ (x : Record). IsRecordOf p [] zero x) (sym e ∙ same)
        (record { depth = refl; low = refl; stage = refl; has_point = refl })
    at (suc id) q h = cc

-- the tree that has the root alone
pub root_tree : (t : Inside) (r : Record) → t ≡ record
    t { kept = record t.kept { fell = false; outs = 0; used = 0; best = None; best_place = 0 } }
    → t.journal.entries ≡ [] → t.kept.records.items ≡ r ∷ []
    → r ≡ root_record (trivial_bound_of t.problem (own_lows t.problem) (own_highs t.problem))
    (root_desc t.problem)
    → 0 < t.settings.span → t.settings.span ≤ MOST_SPAN → t.settings.nodes ≤ MOST_NODES
    → pos 0 ≤ℤ t.settings.gap → t.settings.gap ≤ℤ LARGEST_GAP → 1 ≤ vec_capacity t.kept.records
    → 1 ≤ length t.kept.waiting.keys → 1 ≤ length t.kept.candidates.keys
    → AreCandidates t.kept.candidates → is_listed t.kept.candidates 0 ≡ true
    → t.kept.waiting.order ≡ t.settings.order → key_in t.kept.waiting 0
    ≡ cond r.has_point (Some (record_key 0 r)) None
    → ((id : ℕ) → (id ≡ 0 → ⊥) → key_in t.kept.waiting id ≡ None)
    → IsTree t
root_tree t r rest empty items e some short few gap small cap one two plain root order here others =
    subst IsTree (sym rest)
    (record {
      follows =
          subst (λ (l : List Entry). IsKept p s (reverse l) t.journal.room
          (vec_capacity t.kept.records) t.kept.records.items 0 None) (sym empty)
          (subst (λ (l : List Record). IsKept p s [] t.journal.room (vec_capacity t.kept.records)
          l 0 None) (sym first) kept);
      stands = subst (λ (l : List Entry). StandsAt (best_of p (reverse l)) l 0) (sym empty) tt;
      queued = subst (λ (l : List Entry). AreQueued s.order (cutoff_for p s (reverse l))
          t.kept.records.items t.kept.waiting) (sym empty)
          (subst (λ (l : List Record). AreQueued s.order None l t.kept.waiting) (sym items)
          (record { same_order = order; each = each }));
      waiting_room = omega arith;
      waiting_below = omega (arith, one, len);
      outs_is = ap (count_by (λ (q : Record). is_out q.stage)) (sym first);
      listed = plain;
      covered = subst (λ (l : List Entry). IsCovered p s l (is_listed t.kept.candidates) false)
          (sym (ap reverse empty)) (λ id b f. root_only id b);
      candidate_room = omega arith;
      candidate_below = omega (arith, two, len);
    })
  where
    p : Program
    p = t.problem

    s : Settings
    s = t.settings

    first : t.kept.records.items ≡ root_record
        (trivial_bound_of t.problem (own_lows t.problem) (own_highs t.problem))
        (root_desc t.problem) ∷ []
    first = items ∙ ap (λ (x : Record). x ∷ []) e

    len : length t.kept.records.items ≡ 1
    len = ap length items

    kept : IsKept t.problem t.settings [] t.journal.room (vec_capacity t.kept.records)
        (root_record (trivial_bound_of t.problem (own_lows t.problem) (own_highs t.problem))
        (root_desc t.problem) ∷ []) 0 None
    kept = record {
      legal = tt;
      span_some = some;
      span_few = short;
      records =
          records_root t.problem (root_record
          (trivial_bound_of t.problem (own_lows t.problem) (own_highs t.problem))
          (root_desc t.problem)) refl;
      storage = stored_root t.problem t.settings
          (root_record (trivial_bound_of t.problem (own_lows t.problem) (own_highs t.problem))
          (root_desc t.problem))
          (trivial_bound_of t.problem (own_lows t.problem) (own_highs t.problem)) refl;
      used = refl;
      best_is = refl;
      room_is = omega arith;
      capacity_is = omega (arith, cap);
      outs = omega arith;
      size = omega arith;
      budget = omega arith;
      few = few;
      gap_some = gap;
      gap_few = small;
    }

    each : (id : ℕ) → IsQueued None id (slice_get (r ∷ []) id) (key_in t.kept.waiting id)
    each zero = queued_new None 0 r (record_key 0 r) (key_in t.kept.waiting 0)
        (ap (λ (x : Record). is_waiting x.stage) e) refl here
    each (suc id) = subst (λ (k : Option Key). IsQueued None (suc id) None k)
        (sym (others (suc id) (λ i. omega (arith, i)))) tt

    root_only : (id : ℕ) → id < 1 → IsCandidate (is_listed t.kept.candidates) false [] id
    root_only zero b = or_left (is_listed t.kept.candidates 0)
        (false && is_waiting (state_of [] 0)) root
    root_only (suc id) b = absurd (omega arith)
