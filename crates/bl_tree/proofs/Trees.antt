-- What a tree keeps, after its calls.
use Rattle.std.proofs.Common.{◌≡◌, ℕ, ◌*◌, ◌<◌, ◌≤◌, List, [], ◌∷◌, ◌++◌, length, length-set}
use Rattle.std.proofs.Common.{refl, ap, sym, ◌∙◌, subst, arith, Bool, true, false, cond, Some}
use Rattle.std.proofs.Common.{None, Option}
use Rattle.std.specs.Prelude.{slice_get, slice_set, count_by, reverse, vec_capacity, IfSome, ℤ}
use Rattle.std.specs.Prelude.{nat_lt, ◌==◌, ◌&&◌}
use Rattle.std.proofs.lemmas.Bool.{lt-ltb, or_left}
use Rattle.bl_problem.specs.declared.cut.Cut.{Cut}
use Rattle.bl_desc.specs.declared.desc.Piece.{Piece}
use Rattle.bl_desc.specs.declared.desc.Form.{Form}
use Rattle.bl_journal.specs.declared.entry.Entry.TheVariants.{Encode, Free}
use Rattle.bl_journal.specs.Births.{nodes_of, node_at}
use Rattle.bl_journal.specs.Replies.{ids_of, is_waiting, any_out, gives, next_of, reply_for}
use Rattle.bl_journal.specs.Replies.{take_reply, is_out}
use Rattle.bl_journal.specs.Pieces.{is_freed}
use Rattle.bl_journal.specs.Freeing.{is_freeable, first_freeable, IsFreeChain, HasNothingToFree}
use Rattle.bl_journal.specs.Freeing.{standing_of}
use Rattle.bl_journal.proofs.Living.{Each-ids, find_holds}
use Rattle.bl_journal.proofs.Meaning.{Has-ids}
use Rattle.bl_journal.specs.Pieces.{piece_in}
use Rattle.bl_journal.specs.States.{state_of, best_of, cutoff_for}
use Rattle.bl_journal.specs.declared.state.State.TheVariants.{Out as out}
use Rattle.bl_journal.specs.Legality.{MayEncode}
use Rattle.bl_journal.proofs.Growth.{reverse-push}
use Rattle.bl_tree.proofs.Sets.{records_set, count_by-set}
use Rattle.bl_tree.proofs.Stored.{stored_encoded}
use Rattle.bl_tree.proofs.Chained.{not_freed, parent_born}
use Rattle.bl_tree.proofs.Encodings.{encoded_is}
use Rattle.bl_tree.proofs.Queues.{all_same, all_thinned, all_like, all_freed}
use Rattle.bl_pool.specs.Views.{PoolView, key_in}
use Rattle.bl_tree.proofs.Standing.{stands_more}
use Rattle.bl_tree.proofs.Covers.{IsCovered, candidate_stays, covered_encode, covered_free}
use Rattle.bl_tree.proofs.Covers.{fewer_stand}
use Rattle.bl_problem.specs.Program.{Program}
use Rattle.bl_journal.specs.declared.entry.Entry.{Entry}
use Rattle.bl_journal.specs.declared.settings.Settings.{Settings}
use Rattle.bl_tree.specs.declared.record.Record.{Record}
use Rattle.bl_tree.proofs.Goes.{may_go_same, find_some}
use Rattle.bl_tree.proofs.Climbing.{FreedFacts, freed_facts, freed_at_once, goes_is, goes_before}
use Rattle.bl_tree.proofs.Climbing.{knows, outs_freed, length_freed}
use Rattle.bl_tree.specs.Records.{may_go_at, IsFreedUp, AreRecords, AreStored, stored_if}
use Rattle.bl_tree.specs.Records.{stored_at, StandsAt, IsKept, IsThinned, AreQueued}
use Rattle.bl_tree.specs.Records.{AreCandidates, is_listed}
use Rattle.bl_tree.specs.Kept.{IsTree}
use Rattle.bl_tree.specs.declared.tree.Tree.TheInside.{Inside}
use Rattle.bl_tree.proofs.Kept.{kept_room, kept_born, kept_next}
use Rattle.bl_tree.proofs.Outs.{out_counted}
use Rattle.bl_tree.specs.Views.{TreeView, past_of}

-- the same tree with more room
pub tree_room : (t u : Inside) → IsTree t → u ≡ record t {
  journal = u.journal;
  kept =
      record t.kept {
        records = u.kept.records;
        waiting = u.kept.waiting;
        candidates =
            u.kept.candidates;
      };
}
    → u.journal.entries ≡ t.journal.entries → u.kept.records.items ≡ t.kept.records.items
    → u.kept.waiting.order ≡ t.kept.waiting.order
    → ((id : ℕ) → key_in u.kept.waiting id ≡ key_in t.kept.waiting id)
    → AreCandidates u.kept.candidates
    → ((q : ℕ) → is_listed t.kept.candidates q ≡ true → is_listed u.kept.candidates q ≡ true)
    → t.journal.room ≤ u.journal.room → vec_capacity t.kept.records ≤ vec_capacity u.kept.records
    → t.kept.waiting.room ≤ u.kept.waiting.room → length t.kept.waiting.keys
    ≤ length u.kept.waiting.keys
    → t.kept.candidates.room ≤ u.kept.candidates.room → length t.kept.candidates.keys
    ≤ length u.kept.candidates.keys → IsTree u
tree_room t u k rest e same order keys plain listed more larger wider longer broader further =
    let past : reverse t.journal.entries ≡ reverse u.journal.entries = ap reverse (sym e) in
    let a = k.waiting_room in
    let b = k.candidate_room in
    let d = k.waiting_below in
    let g = k.candidate_below in
    let len : length u.kept.records.items ≡ length t.kept.records.items = ap length same in
    subst IsTree (sym rest)
    (record {
      follows =
          subst (λ (l : List Record). IsKept t.problem t.settings (reverse u.journal.entries)
          u.journal.room (vec_capacity u.kept.records) l t.kept.used t.kept.best) (sym same)
          (subst (λ (l : List Entry). IsKept t.problem t.settings l u.journal.room
          (vec_capacity u.kept.records) t.kept.records.items t.kept.used t.kept.best) past
          (kept_room t.problem t.settings (reverse t.journal.entries) t.journal.room
          u.journal.room (vec_capacity t.kept.records) (vec_capacity u.kept.records)
          t.kept.records.items t.kept.used t.kept.best k.follows more larger));
      stands = subst (λ (l : List Entry). StandsAt (best_of t.problem (reverse l)) l
          t.kept.best_place) (sym e) k.stands;
      queued = subst (λ (l : List Record). AreQueued t.settings.order
          (cutoff_for t.problem t.settings (reverse u.journal.entries)) l u.kept.waiting) (sym same)
          (subst (λ (l : List Entry). AreQueued t.settings.order
          (cutoff_for t.problem t.settings l) t.kept.records.items u.kept.waiting) past
          (record {
            same_order = order ∙ k.queued.same_order;
            each =
                all_same (cutoff_for t.problem t.settings (reverse t.journal.entries))
                t.kept.records.items t.kept.waiting u.kept.waiting keys k.queued.each;
          }));
      waiting_room = omega (arith, a, wider);
      waiting_below = omega (arith, d, longer, len);
      outs_is = k.outs_is ∙ ap (count_by (λ (r : Record). is_out r.stage)) (sym same);
      covered =
          subst (λ (l : List Entry). IsCovered t.problem t.settings l
          (is_listed u.kept.candidates) t.kept.fell) past
          (λ q h f. candidate_stays (is_listed t.kept.candidates) (is_listed u.kept.candidates)
          t.kept.fell t.kept.fell (reverse t.journal.entries) (reverse t.journal.entries) q
          (listed q) (λ a. a) refl (k.covered q h f));
      listed = plain;
      candidate_room = omega (arith, b, broader);
      candidate_below = omega (arith, g, further, len);
    })

-- some keys that are not below the cutoff go
pub tree_thinned : (t u : Inside) (cutoff : Option ℤ) → IsTree t → u
    ≡ record t { kept = record t.kept { waiting = u.kept.waiting } } → cutoff
    ≡ cutoff_for t.problem t.settings (reverse t.journal.entries)
    → u.kept.waiting.order ≡ t.kept.waiting.order
    → ((id : ℕ) → IsThinned cutoff (key_in t.kept.waiting id) (key_in u.kept.waiting id))
    → t.kept.waiting.room ≤ u.kept.waiting.room → length u.kept.waiting.keys
    ≡ length t.kept.waiting.keys → IsTree u
tree_thinned t u cutoff k rest cut order keys wider same =
    let a = k.waiting_room in
    let d = k.waiting_below in
    subst IsTree (sym rest)
    (record {
      follows = k.follows;
      stands = k.stands;
      queued = record {
        same_order = order ∙ k.queued.same_order;
        each = all_thinned (cutoff_for t.problem t.settings (reverse t.journal.entries))
            t.kept.records.items t.kept.waiting u.kept.waiting
            (subst (λ (c : Option ℤ). (id : ℕ)
            → IsThinned c (key_in t.kept.waiting id) (key_in u.kept.waiting id)) cut keys)
            k.queued.each;
      };
      waiting_room = omega (arith, a, wider);
      waiting_below = omega (arith, d, same);
      outs_is = k.outs_is;
      listed = k.listed;
      covered = k.covered;
      candidate_room = k.candidate_room;
      candidate_below = k.candidate_below;
    })

-- after a node is stored in another form
pub tree_encoded : (t u : Inside) (seat id : ℕ) (form : Form) (r : Record) (piece : Piece Cut)
    → IsTree t → u ≡ record t {
      journal = u.journal;
      kept =
          record t.kept { records = u.kept.records; candidates = u.kept.candidates };
    }
    → MayEncode t.problem t.settings (reverse t.journal.entries) id form
    → slice_get t.kept.records.items id ≡ Some r → piece
    ≡ piece_in t.problem (reverse t.journal.entries) id form
    → u.journal.entries ≡ t.journal.entries ++ Encode seat id form ∷ [] → t.kept.outs
    ≤ u.journal.room → vec_capacity u.kept.records ≡ vec_capacity t.kept.records
    → u.kept.records.items ≡ stored_at t.kept.records.items id piece
    → AreCandidates u.kept.candidates → ((q : ℕ) → is_listed t.kept.candidates q ≡ true
    → is_listed u.kept.candidates q ≡ true)
    → IfSome r.parent (λ q. is_listed u.kept.candidates q ≡ true)
    → 3 * t.kept.outs ≤ u.kept.candidates.room → length t.kept.candidates.keys
    ≤ length u.kept.candidates.keys → IsTree u
tree_encoded t u seat id form r piece tree rest may e is made more same stored plain listed
    parents fits further =
    let p : Program = t.problem in
    let s : Settings = t.settings in
    let kept : List Record = t.kept.records.items in
    let past : List Entry = reverse t.journal.entries in
    let k = tree.follows in
    let y : Record = record r { piece = Some piece } in
    let turned : reverse u.journal.entries ≡ Encode seat id form ∷ past =
    ap reverse made ∙ reverse-push t.journal.entries (Encode seat id form) in
    let now : u.kept.records.items ≡ slice_set kept id y =
    stored ∙ ap (stored_if kept id piece) e in
    let count = count_by-set (λ (q : Record). is_out q.stage) kept id y r e in
    let len = length-set kept id y in
    let outs_is = tree.outs_is in
    let same_count : count_by (λ (q : Record). is_out q.stage) (slice_set kept id y)
    ≡ count_by (λ (q : Record). is_out q.stage) kept = omega (arith, count) in
    let a = k.capacity_is in
    let b = k.outs in
    let d = k.size in
    let kept_then : IsKept p s (Encode seat id form ∷ past) u.journal.room
    (vec_capacity t.kept.records) (slice_set kept id y) t.kept.used t.kept.best =
    record {
      legal = (may, k.legal);
      span_some = k.span_some;
      span_few = k.span_few;
      records = records_set p past (Encode seat id form ∷ past) kept id r y
          (record { depth = refl; low = refl; has_point = refl }) refl
          (k.records.each id r e).stage (λ q ne. refl) k.records e;
      storage = stored_encoded p s past kept id seat form r piece
          (not_freed (state_of past id) may.not_freed) (encoded_is p s past seat id form may) is
          k.storage e;
      used = k.used;
      best_is = k.best_is;
      room_is = omega (arith, same_count, outs_is, more);
      capacity_is = omega (arith, same_count, len, a);
      outs = omega (arith, same_count, b);
      size = omega (arith, same_count, len, d);
      budget = k.budget;
      few = k.few;
      gap_some = k.gap_some;
      gap_few = k.gap_few;
    } in
    let parent : (node_at p past id).parent ≡ r.parent = sym (k.storage id r e).parent in
    let covered = covered_encode p s past (is_listed t.kept.candidates)
    (is_listed u.kept.candidates) t.kept.fell seat id form listed
    (λ q m. subst (λ (o : Option ℕ). IfSome o (λ q. is_listed u.kept.candidates q ≡ true))
    (sym parent ∙ m) parents) tree.covered in
    let long : length u.kept.records.items ≡ length kept = ap length now ∙ len in
    subst IsTree (sym rest)
    (record {
      follows = subst (λ (l : List Record). IsKept p s (reverse u.journal.entries) u.journal.room
          (vec_capacity u.kept.records) l t.kept.used t.kept.best) (sym now)
          (subst (λ (h : List Entry). IsKept p s h u.journal.room (vec_capacity u.kept.records)
          (slice_set kept id y) t.kept.used t.kept.best) (sym turned)
          (subst (λ (n : ℕ). IsKept p s (Encode seat id form ∷ past) u.journal.room n
          (slice_set kept id y) t.kept.used t.kept.best) (sym same) kept_then));
      stands = subst (λ (l : List Entry). StandsAt (best_of p (reverse l)) l t.kept.best_place)
          (sym made) (stands_more p t.journal.entries (Encode seat id form) t.kept.best_place refl
          tree.stands);
      queued = subst (λ (l : List Record). AreQueued s.order
          (cutoff_for p s (reverse u.journal.entries)) l t.kept.waiting) (sym now)
          (subst (λ (h : List Entry). AreQueued s.order (cutoff_for p s h) (slice_set kept id y)
          t.kept.waiting) (sym turned)
          (record {
            same_order = tree.queued.same_order;
            each =
                all_like (cutoff_for p s past) kept t.kept.waiting id r y e refl refl refl refl
                tree.queued.each;
          }));
      waiting_room = tree.waiting_room;
      waiting_below = let d = tree.waiting_below in omega (arith, d, long);
      outs_is = outs_is ∙ (sym same_count ∙ ap (count_by (λ (q : Record). is_out q.stage))
          (sym now));
      listed = plain;
      covered = subst (λ (h : List Entry). IsCovered p s h (is_listed u.kept.candidates)
          t.kept.fell) (sym turned) covered;
      candidate_room = omega (arith, fits);
      candidate_below = let g = tree.candidate_below in omega (arith, g, further, long);
    })

-- the first node that may be freed is born, and may be freed
pub first_holds : (p : Program) (s : Settings) (past : List Entry) (id : ℕ)
    → first_freeable p s past ≡ Some id → (id < length (nodes_of p past))
    × (is_freeable p s past id ≡ true)
first_holds p s past id e = find_holds (is_freeable p s past) (λ i. i < length (nodes_of p past))
    (ids_of p past) (Each-ids (length (nodes_of p past))) id e

-- what a free leaves
pub record IsFreedTree (p : Program) (s : Settings) (past : List Entry) (seat : ℕ) (ids : List ℕ)
    (after : List Record) (room capacity taken : ℕ) (best : Option ℤ) (candidates : ℕ → Bool)
    (fell : Bool) : Type 0 where
  pub chain : IsFreeChain p s past ids
  pub kept : IsKept p s (Free seat ids ∷ past) room capacity after taken best
  pub covered : IsCovered p s (Free seat ids ∷ past) candidates fell
  pub fewer : standing_of p (Free seat ids ∷ past) < standing_of p past

pub freed_tree : (p : Program) (s : Settings) (past : List Entry) (room room' capacity : ℕ)
    (kept : List Record) (taken : ℕ) (best cutoff : Option ℤ) (cs : ℕ → Bool) (fell : Bool)
    (seat id : ℕ) (ids : List ℕ) (after : List Record)
    → IsKept p s past room capacity kept taken best → cutoff ≡ cutoff_for p s past
    → IsCovered p s past cs fell → first_freeable p s past ≡ Some id
    → IsFreedUp cutoff kept id ids after → count_by (λ (r : Record). is_out r.stage) kept ≤ room'
    → IsFreedTree p s past seat ids after room' capacity taken best cs fell
freed_tree p s past room room' capacity kept taken best cutoff cs fell seat id ids after k cut
    covered first f fits =
    subst (λ (l : List ℕ). IsFreedTree p s past seat l after room' capacity taken best cs fell)
    (sym f.freeing.chain)
    (record {
      chain = (first, facts.climbs);
      kept = then;
      covered = covers;
      fewer =
          fewer_stand p past seat id f.freeing.others holds.0 stands;
    })
  where
    holds : (id < length (nodes_of p past)) × (is_freeable p s past id ≡ true)
    holds = first_holds p s past id first

    within : id < length kept
    within = let len : length kept ≡ length (nodes_of p past) = k.records.count in let b : id
        < length (nodes_of p past) = (first_holds p s past id first).0 in omega (arith, b, len)

    goes : may_go_at cutoff kept id ≡ true
    goes = may_go_same p s past kept cutoff id k.records k.storage cut
        (first_holds p s past id first).0 ∙ (first_holds p s past id first).1

    parents : (i q : ℕ) → (node_at p past i).parent ≡ Some q → i < length (nodes_of p past) → q
        < length (nodes_of p past)
    parents i q e b = subst (λ (o : Option ℕ). IfSome o (λ q. q < length (nodes_of p past))) e
        (parent_born p s past i k.legal b)

    facts : FreedFacts p s past id f.freeing.others after
    facts = freed_facts p s cutoff f.freeing.others past kept id f.last after k.records k.storage
        cut within parents f.freeing.freed f.top

    both : AreRecords p (Free seat (id ∷ f.freeing.others) ∷ past) after
        × AreStored p s (Free seat (id ∷ f.freeing.others) ∷ past) after
    both = freed_at_once p s past seat (id ∷ f.freeing.others) after facts.records facts.storage

    stands : is_freed (state_of past id) ≡ false
    stands =
        let r = goes_is cutoff kept id goes in
        ap is_freed (sym (k.records.each id r.r r.is).stage) ∙ r.stays

    then : IsKept p s (Free seat (id ∷ f.freeing.others) ∷ past) room' capacity after taken best
    then =
        let len = length_freed cutoff f.freeing.others kept id f.last after f.freeing.freed in
        let same = outs_freed cutoff f.freeing.others kept id f.last after f.freeing.freed goes in
        let a = k.capacity_is in
        let b = k.outs in
        let d = k.size in
        record {
          legal = ((first, facts.climbs), k.legal);
          span_some = k.span_some;
          span_few = k.span_few;
          records = both.0;
          storage = both.1;
          used = k.used;
          best_is = k.best_is;
          room_is = omega (arith, same, fits);
          capacity_is = omega (arith, same, len, a);
          outs = omega (arith, same, b);
          size = omega (arith, same, len, d);
          budget = k.budget;
          few = k.few;
          gap_some = k.gap_some;
          gap_few = k.gap_few;
        }

    covers : IsCovered p s (Free seat (id ∷ f.freeing.others) ∷ past) cs fell
    covers =
        covered_free p s past cs fell seat (id ∷ f.freeing.others)
        (λ q b g. sym (may_go_same p s past kept cutoff q k.records k.storage cut b)
        ∙ goes_before cutoff f.freeing.others kept id f.last after f.freeing.freed f.top
        (knows p s past kept k.records k.storage) within q
        (may_go_same p s (Free seat (id ∷ f.freeing.others) ∷ past) after cutoff q both.0 both.1
        cut b ∙ g)) covered

-- after nodes are freed
pub tree_freed : (t u : Inside) (cutoff : Option ℤ) (seat id : ℕ) (ids : List ℕ) → IsTree t → u
    ≡ record t {
      journal = u.journal;
      kept =
          record t.kept { records = u.kept.records; waiting = u.kept.waiting };
    }
    → cutoff ≡ cutoff_for t.problem t.settings (reverse t.journal.entries)
    → first_freeable t.problem t.settings (reverse t.journal.entries) ≡ Some id
    → IsFreedUp cutoff t.kept.records.items id ids u.kept.records.items
    → u.journal.entries ≡ t.journal.entries ++ Free seat ids ∷ [] → t.kept.outs ≤ u.journal.room
    → vec_capacity u.kept.records ≡ vec_capacity t.kept.records
    → u.kept.waiting.order ≡ t.kept.waiting.order → ((o : ℕ) → key_in u.kept.waiting o
    ≡ cond (o == id) None (key_in t.kept.waiting o)) → t.kept.waiting.room
    ≤ u.kept.waiting.room → length u.kept.waiting.keys ≡ length t.kept.waiting.keys → IsTree u
tree_freed t u cutoff seat id ids tree rest cut first f made more same order left wider same' =
    let p : Program = t.problem in
    let s : Settings = t.settings in
    let kept : List Record = t.kept.records.items in
    let past : List Entry = reverse t.journal.entries in
    let k = tree.follows in
    let outs_is = tree.outs_is in
    let room_now = tree.waiting_room in
    let g = freed_tree p s past t.journal.room u.journal.room (vec_capacity t.kept.records) kept
    t.kept.used t.kept.best cutoff (is_listed t.kept.candidates) t.kept.fell seat id ids
    u.kept.records.items k cut tree.covered first f (omega (arith, outs_is, more)) in
    let turned : reverse u.journal.entries ≡ Free seat ids ∷ past =
    ap reverse made ∙ reverse-push t.journal.entries (Free seat ids) in
    let holds = first_holds p s past id first in
    let goes : may_go_at cutoff kept id ≡ true =
    may_go_same p s past kept cutoff id k.records k.storage cut holds.0 ∙ holds.1 in
    let r = goes_is cutoff kept id goes in
    let count = outs_freed cutoff f.freeing.others kept id f.last u.kept.records.items
    f.freeing.freed goes in
    let len = length_freed cutoff f.freeing.others kept id f.last u.kept.records.items
    f.freeing.freed in
    subst IsTree (sym rest)
    (record {
      follows =
          subst (λ (h : List Entry). IsKept p s h u.journal.room (vec_capacity u.kept.records)
          u.kept.records.items t.kept.used t.kept.best) (sym turned)
          (subst (λ (n : ℕ). IsKept p s (Free seat ids ∷ past) u.journal.room n
          u.kept.records.items t.kept.used t.kept.best) (sym same) g.kept);
      stands = subst (λ (l : List Entry). StandsAt (best_of p (reverse l)) l t.kept.best_place)
          (sym made) (stands_more p t.journal.entries (Free seat ids) t.kept.best_place refl
          tree.stands);
      queued = subst (λ (h : List Entry). AreQueued s.order (cutoff_for p s h)
          u.kept.records.items u.kept.waiting) (sym turned)
          (record {
            same_order = order ∙ tree.queued.same_order;
            each = all_freed (cutoff_for p s past) cutoff f.freeing.others kept id f.last
                u.kept.records.items t.kept.waiting u.kept.waiting f.freeing.freed
                (knows p s past kept k.records k.storage) r.r r.is left tree.queued.each;
          });
      waiting_room = omega (arith, room_now, wider);
      waiting_below = let d = tree.waiting_below in omega (arith, d, len, same');
      outs_is = omega (arith, outs_is, count);
      listed = tree.listed;
      covered = subst (λ (h : List Entry). IsCovered p s h (is_listed t.kept.candidates)
          t.kept.fell) (sym turned) g.covered;
      candidate_room = tree.candidate_room;
      candidate_below = let d = tree.candidate_below in omega (arith, d, len);
    })

-- each node that may be freed is a candidate
pub tree_looked : (t u : Inside) → IsTree t → u
    ≡ record t { kept = record t.kept { candidates = u.kept.candidates; fell = false } }
    → AreCandidates u.kept.candidates
    → ((id : ℕ) → id < length (nodes_of t.problem (reverse t.journal.entries))
    → is_freeable t.problem t.settings (reverse t.journal.entries) id ≡ true
    → is_listed u.kept.candidates id ≡ true)
    → 3 * t.kept.outs ≤ u.kept.candidates.room → length t.kept.candidates.keys
    ≤ length u.kept.candidates.keys → IsTree u
tree_looked t u tree rest plain covered fits further =
    subst IsTree (sym rest)
    (record {
      follows = tree.follows;
      stands = tree.stands;
      queued = tree.queued;
      waiting_room = tree.waiting_room;
      waiting_below = tree.waiting_below;
      outs_is = tree.outs_is;
      listed = plain;
      covered = λ id b f. or_left (is_listed u.kept.candidates id)
          (false && is_waiting (state_of (reverse t.journal.entries) id)) (covered id b f);
      candidate_room = fits;
      candidate_below = let g = tree.candidate_below in omega (arith, g, further);
    })

-- no first node that may be freed: none may be
pub nothing_to_free : (p : Program) (s : Settings) (past : List Entry) → first_freeable p s past
    ≡ None → HasNothingToFree p s past
nothing_to_free p s past e id b = by_test (is_freeable p s past id) refl
  where
    by_test : (t : Bool) → is_freeable p s past id ≡ t → is_freeable p s past id ≡ false
    by_test false h = h
    by_test true h =
        absurd (find_some (is_freeable p s past) (ids_of p past) id
        (Has-ids (length (nodes_of p past)) id b) h e)

-- a node that is out with a seat
pub record IsOutAt (t : Inside) (seat id : ℕ) : Type 0 where
  pub is_out : state_of (reverse t.journal.entries) id ≡ out seat
  pub born : id < length t.kept.records.items
  pub some : 0 < t.kept.outs

pub out_at : (t : Inside) (v : TreeView) (seat id other : ℕ) → IsTree t
    → (record { problem = t.problem; settings = t.settings; history = t.journal.entries }) ≡ v
    → id ≡ other
    → state_of (past_of v) other ≡ out seat → IsOutAt t seat id
out_at t v seat id other k view same o = record {
  is_out = here;
  born = kept_born t.problem t.settings (reverse t.journal.entries) t.journal.room
      (vec_capacity t.kept.records) t.kept.records.items t.kept.used t.kept.best id seat k.follows
      here;
  some = out_counted t.problem t.settings (reverse t.journal.entries) t.journal.room
      (vec_capacity t.kept.records) t.kept.records.items t.kept.used t.kept.best id seat
      t.kept.outs k.follows here k.outs_is;
}
  where
    here : state_of (reverse t.journal.entries) id ≡ out seat
    here = ap (λ (u : TreeView). state_of (past_of u) id) view
        ∙ (ap (state_of (past_of v)) same ∙ o)

-- what a take answers, by the first node in the order
pub replies : (t : Inside) (v : TreeView) (first : Option ℕ) → IsTree t
    → (record { problem = t.problem; settings = t.settings; history = t.journal.entries }) ≡ v
    → first ≡ next_of v.problem v.settings (past_of v)
    → take_reply t.problem t.settings (reverse t.journal.entries)
    ≡ reply_for first (nat_lt t.kept.used t.settings.nodes)
    (any_out t.problem (reverse t.journal.entries))
replies t v first k view is =
    kept_next t.problem t.settings t.journal.entries t.journal.room (vec_capacity t.kept.records)
    t.kept.records.items t.kept.used t.kept.best v k.follows view first is

-- it gives that node where the budget is not spent
pub gives_first : (t : Inside) (v : TreeView) (first : Option ℕ) (id : ℕ) → IsTree t
    → (record { problem = t.problem; settings = t.settings; history = t.journal.entries }) ≡ v
    → first ≡ next_of v.problem v.settings (past_of v)
    → first ≡ Some id → t.kept.used < t.settings.nodes
    → take_reply t.problem t.settings (reverse t.journal.entries) ≡ gives id
gives_first t v first id k view is some left =
    replies t v first k view is
    ∙ (ap (λ o. reply_for o (nat_lt t.kept.used t.settings.nodes)
    (any_out t.problem (reverse t.journal.entries))) some
    ∙ ap (λ b. reply_for (Some id) b (any_out t.problem (reverse t.journal.entries)))
    (lt-ltb t.kept.used t.settings.nodes left))

-- the first node that may be freed has a record
pub first_kept : (t : Inside) (id : ℕ) → IsTree t
    → first_freeable t.problem t.settings (reverse t.journal.entries) ≡ Some id → id
    < length t.kept.records.items
first_kept t id k first =
    let born = (first_holds t.problem t.settings (reverse t.journal.entries) id first).0 in
    let count = k.follows.records.count in
    omega (arith, born, count)
