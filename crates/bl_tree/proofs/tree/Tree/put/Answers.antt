use Rattle.std.proofs.Common.{rules, arith, ◌≡◌, ◌<◌, ◌+◌, ◌||◌, ℕ, Bool, Option, List, [], ◌∷◌}
use Rattle.std.proofs.Common.{◌++◌, length, refl, length-append, length-set, ap, sym, ◌∙◌, subst}
use Rattle.std.specs.Prelude.{FitsSigned, ℤ, reverse, slice_set}
use Rattle.std.specs.Int.{int_max, w64, w128}
use Rattle.std.proofs.lemmas.Int.{to_z-of_z}
use mir.Val.{to_z, of_z}
use Rattle.bl_problem.specs.Program.{Program}
use Rattle.bl_problem.specs.declared.cut.Cut.{Cut}
use Rattle.bl_desc.specs.declared.desc.Desc.{Desc}
use Rattle.bl_desc.specs.declared.change.Change.{Change}
use Rattle.bl_desc.specs.Changes.{changed}
use Rattle.bl_journal.specs.Births.{nodes_of}
use Rattle.bl_journal.specs.Descriptions.{left_child, right_child}
use Rattle.bl_journal.proofs.Lines.{full_columns}
use Rattle.bl_journal.proofs.Growth.{reverse-push}
use Rattle.bl_tree.proofs.Covers.{IsCovered, covered_put, two_listed}
use Rattle.bl_tree.specs.Records.{best_value_with, place_with, improves, box_has_point, is_listed}
use Rattle.bl_tree.specs.Chains.{described_by}
use Rattle.bl_journal.specs.declared.entry.Entry.{Entry}
use Rattle.bl_journal.specs.declared.entry.Entry.TheVariants.{Put}
use Rattle.bl_journal.specs.declared.entry.Step.TheVariants.{Shut, Split}
use Rattle.bl_tree.proofs.Handed.{put_facts, desc_is, shut_done, split_done, put_room}
use Rattle.bl_tree.proofs.Kept.{kept_out}
use Rattle.bl_tree.proofs.Trees.{out_at}
use Rattle.bl_journal.specs.States.{cutoff_for}
use Rattle.bl_journal.specs.declared.state.State.TheVariants.{Shut as shut}
use Rattle.bl_tree.specs.declared.record.Record.{Record}
use Rattle.bl_tree.proofs.Puts.{parted}
use Rattle.bl_tree.proofs.Outs.{out_waits_not, outs_ended, split_list, outs_split}
use Rattle.bl_tree.proofs.Queues.{all_passed, all_split, all_unborn, put_moved}
use Rattle.bl_tree.proofs.Searches.{slice_get-is}
use Rattle.bl_tree.proofs.Standing.{stands_put}
use Rattle.bl_tree.proofs.tree.Tree.put.Goals as goal

pub overflow_sub-self : goal.overflow_sub-self
overflow_sub-self c =
    let o = (out_at c.self.inside _ c.args.seat c.parts_of-id.result.0 _ c.self.invariant
    c.self.view_is c.parts_of-id.ensures.id c.requires.leased.is_out).some in
    omega (arith, o)

pub add-requires-clause-room : goal.add-requires-clause-room
add-requires-clause-room c =
    let o = (out_at c.self.inside _ c.args.seat c.parts_of-id.result.0 _ c.self.invariant
    c.self.view_is c.parts_of-id.ensures.id c.requires.leased.is_out).some in
    let room = c.self.invariant.candidate_room in
    omega (arith, o, room)

pub add-requires-clause-below : goal.add-requires-clause-below
add-requires-clause-below c =
    let b = (out_at c.self.inside _ c.args.seat c.parts_of-id.result.0 _ c.self.invariant
    c.self.view_is c.parts_of-id.ensures.id c.requires.leased.is_out).born in
    let below = c.self.invariant.candidate_below in
    omega (arith, b, below)

pub index_mut-requires : goal.index_mut-requires
index_mut-requires c =
    let b = (out_at c.self.inside _ c.args.seat c.parts_of-id.result.0 _ c.self.invariant
    c.self.view_is c.parts_of-id.ensures.id c.requires.leased.is_out).born in
    let k : length c.self.inside.kept.records.items ≡ c.self.inside.kept.records.len =
    search rules in
    omega (arith, b, k)

pub push_reserved-requires : goal.push_reserved-requires
push_reserved-requires c =
    let here = out_at c.self.inside _ c.args.seat c.parts_of-id.result.0 _ c.self.invariant
    c.self.view_is c.parts_of-id.ensures.id c.requires.leased.is_out in
    let f = put_facts c.self.inside.problem c.self.inside.settings c.self.inside.journal.entries
    c.args.self.now c.args.seat c.args.lease c.args.outcome c.parts_of-id.result.0 _
    c.self.view_is c.parts_of-id.ensures.id c.in-Shut.is c.requires in
    let b = here.born in
    let e = slice_get-is c.self.inside.kept.records.items c.parts_of-id.result.0
    c.index_mut.result.now b c.index_mut.ensures.value in
    let room = put_room _ _ _ _ _ _ _ _ c.parts_of-id.result.0 c.args.seat c.index_mut.result.now
    c.self.invariant.follows f.may.is_out e in
    room.room_left

pub invariant_of-self : goal.invariant_of-self
invariant_of-self c =
    let here = out_at c.self.inside _ c.args.seat c.parts_of-id.result.0 _ c.self.invariant
    c.self.view_is c.parts_of-id.ensures.id c.requires.leased.is_out in
    let f = put_facts c.self.inside.problem c.self.inside.settings c.self.inside.journal.entries
    c.args.self.now c.args.seat c.args.lease c.args.outcome c.parts_of-id.result.0 _
    c.self.view_is c.parts_of-id.ensures.id c.in-Shut.is c.requires in
    let b = here.born in
    let e = slice_get-is c.self.inside.kept.records.items c.parts_of-id.result.0
    c.index_mut.result.now b c.index_mut.ensures.value in
    let is_best : c.improve-value.result.value
    ≡ best_value_with c.self.inside.problem c.self.inside.kept.best c.args.outcome.found =
    c.improve-value.ensures.value ∙ ap (λ (p : Program). best_value_with p c.self.inside.kept.best
    c.args.outcome.found) c.get-problem.ensures in
    let fit : FitsSigned w128 c.args.outcome.low = search rules in
    let low : to_z w128 (of_z w128 c.args.outcome.low) ≡ c.args.outcome.low =
    to_z-of_z w128 _ fit in
    let pushed : c.push_reserved.new.self.entries ≡ c.self.inside.journal.entries
    ++ c.put_of.result ∷ [] = c.push_reserved.ensures.entries in
    let made : c.push_reserved.new.self.entries ≡ c.self.inside.journal.entries
    ++ Put c.args.seat c.parts_of-id.result.0 c.args.outcome.found c.args.outcome.low Shut
    ∷ [] =
    pushed ∙ ap (λ (e : Entry). c.self.inside.journal.entries ++ e ∷ [])
    (c.put_of.ensures ∙ ap (λ z. Put c.args.seat c.parts_of-id.result.0 c.args.outcome.found z
    Shut) low) in
    let place = c.improve-value.ensures.place
    ∙ (ap (λ (p : Program). place_with p c.self.inside.kept.best c.args.outcome.found
    c.self.inside.kept.best_place c.len-now.result) c.get-problem.ensures
    ∙ ap (place_with c.self.inside.problem c.self.inside.kept.best c.args.outcome.found
    c.self.inside.kept.best_place) c.len-now.ensures) in
    let y : Record = record c.index_mut.result.now { stage = shut } in
    let now = outs_ended _ _ _ _ _ _ _ _ c.parts_of-id.result.0 c.args.seat c.index_mut.result.now
    y c.self.inside.kept.outs c.self.invariant.follows f.may.is_out e c.self.invariant.outs_is
    refl in
    let was = (kept_out _ _ _ _ _ _ _ _ c.parts_of-id.result.0 c.args.seat c.index_mut.result.now
    c.self.invariant.follows f.may.is_out e).1 in
    let e0 : Entry = Put c.args.seat c.parts_of-id.result.0 c.args.outcome.found
    c.args.outcome.low Shut in
    let queued = all_passed (cutoff_for c.self.inside.problem c.self.inside.settings
    (e0 ∷ reverse c.self.inside.journal.entries)) c.self.inside.kept.records.items
    c.self.inside.kept.waiting c.parts_of-id.result.0 c.index_mut.result.now y e
    (out_waits_not c.index_mut.result.now.stage was) refl
    (put_moved c.self.inside.problem c.self.inside.settings
    (reverse c.self.inside.journal.entries) c.self.inside.kept.records.items
    c.self.inside.kept.waiting c.args.seat c.parts_of-id.result.0 c.args.outcome.found
    c.args.outcome.low Shut c.self.invariant.queued.each) in
    let long = length-set c.self.inside.kept.records.items c.parts_of-id.result.0 y in
    let old = c.self.invariant.waiting_room in
    let below = c.self.invariant.waiting_below in
    let better : c.improve-value.result.better
    ≡ improves c.self.inside.problem c.self.inside.kept.best c.args.outcome.found =
    c.improve-value.ensures.better ∙ ap
    (λ (p : Program). improves p c.self.inside.kept.best c.args.outcome.found)
    c.get-problem.ensures in
    let some = here.some in
    let cands = c.self.invariant.candidate_room in
    let added = c.add.ensures.room in
    let listed_below = c.self.invariant.candidate_below in
    let kept_listed = c.add.ensures.below in
    record {
      queued = rw (made, reverse-push c.self.inside.journal.entries e0)
          (record { same_order = c.self.invariant.queued.same_order; each = queued });
      waiting_room = omega (arith, old);
      waiting_below = omega (arith, below, long);
      outs_is = now;
      follows = shut_done _ _ _ _ _ _ _ _ _ _ _ c.parts_of-id.result.0 c.args.seat c.args.lease
          c.args.outcome c.index_mut.result.now c.self.invariant.follows f e
          c.push_reserved.ensures.room made is_best;
      stands = stands_put c.self.inside.problem c.self.inside.journal.entries _ c.args.seat
          c.parts_of-id.result.0 c.args.outcome.found c.args.outcome.low Shut
          c.self.inside.kept.best c.self.inside.kept.best_place _ made
          c.self.invariant.follows.best_is place c.self.invariant.stands;
      listed = c.add.ensures.plain;
      covered = rw (made, reverse-push c.self.inside.journal.entries e0)
          (subst (λ (b : Bool). IsCovered c.self.inside.problem c.self.inside.settings
          (e0 ∷ reverse c.self.inside.journal.entries) (is_listed c.add.new.pool)
          (c.self.inside.kept.fell || b)) (sym better)
          (covered_put c.self.inside.problem c.self.inside.settings (reverse
          c.self.inside.journal.entries) (is_listed c.self.inside.kept.candidates)
          (is_listed c.add.new.pool) c.self.inside.kept.fell c.self.inside.kept.best
          c.args.seat c.parts_of-id.result.0
          c.args.outcome.found c.args.outcome.low Shut f.may.is_out
          c.self.invariant.follows.best_is c.add.ensures.others c.add.ensures.here
          (λ q lo hi. absurd (omega (arith, lo, hi))) c.self.invariant.covered));
      candidate_room = omega (arith, some, cands, added);
      candidate_below = omega (arith, listed_below, kept_listed, long);
    }

pub index_mut-parent-requires : goal.index_mut-parent-requires
index_mut-parent-requires c =
    let b = (out_at c.self.inside _ c.args.seat c.parts_of-id.result.0 _ c.self.invariant
    c.self.view_is c.parts_of-id.ensures.id c.requires.leased.is_out).born in
    let k : length c.self.inside.kept.records.items ≡ c.self.inside.kept.records.len =
    search rules in
    omega (arith, b, k)

pub overflow_add-depth : goal.overflow_add-depth
overflow_add-depth c =
    let here = out_at c.self.inside _ c.args.seat c.parts_of-id.result.0 _ c.self.invariant
    c.self.view_is c.parts_of-id.ensures.id c.requires.leased.is_out in
    let room = put_room _ _ _ _ _ _ _ _ c.parts_of-id.result.0 c.args.seat
    c.index_mut-parent.result.now c.self.invariant.follows here.is_out
    (slice_get-is c.self.inside.kept.records.items c.parts_of-id.result.0
    c.index_mut-parent.result.now here.born c.index_mut-parent.ensures.value) in
    let shallow = room.shallow in omega (arith, shallow)

pub push_reserved-requires-in-Split : goal.push_reserved-requires-in-Split
push_reserved-requires-in-Split c =
    let here = out_at c.self.inside _ c.args.seat c.parts_of-id.result.0 _ c.self.invariant
    c.self.view_is c.parts_of-id.ensures.id c.requires.leased.is_out in
    let room = put_room _ _ _ _ _ _ _ _ c.parts_of-id.result.0 c.args.seat
    c.index_mut-parent.result.now c.self.invariant.follows here.is_out
    (slice_get-is c.self.inside.kept.records.items c.parts_of-id.result.0
    c.index_mut-parent.result.now here.born c.index_mut-parent.ensures.value) in
    let k : length c.self.inside.kept.records.items ≡ c.self.inside.kept.records.len =
    search rules in
    let two = room.two_left in omega (arith, two, k)

pub push_reserved-requires-in-Split-2 : goal.push_reserved-requires-in-Split-2
push_reserved-requires-in-Split-2 c =
    let here = out_at c.self.inside _ c.args.seat c.parts_of-id.result.0 _ c.self.invariant
    c.self.view_is c.parts_of-id.ensures.id c.requires.leased.is_out in
    let room = put_room _ _ _ _ _ _ _ _ c.parts_of-id.result.0 c.args.seat
    c.index_mut-parent.result.now c.self.invariant.follows here.is_out
    (slice_get-is c.self.inside.kept.records.items c.parts_of-id.result.0
    c.index_mut-parent.result.now here.born c.index_mut-parent.ensures.value) in
    let k : length c.self.inside.kept.records.items ≡ c.self.inside.kept.records.len =
    search rules in
    let two = room.two_left in
    let len = c.push_reserved-in-Split.ensures.len in
    let cap = c.push_reserved-in-Split.ensures.capacity in
    omega (arith, two, k, len, cap)

pub join_children-requires-clause-room : goal.join_children-requires-clause-room
join_children-requires-clause-room c =
    let o = (out_at c.self.inside _ c.args.seat c.parts_of-id.result.0 _ c.self.invariant
    c.self.view_is c.parts_of-id.ensures.id c.requires.leased.is_out).some in
    let old = c.self.invariant.waiting_room in
    omega (arith, o, old)

pub join_children-requires-clause-below : goal.join_children-requires-clause-below
join_children-requires-clause-below c =
    let o = (out_at c.self.inside _ c.args.seat c.parts_of-id.result.0 _ c.self.invariant
    c.self.view_is c.parts_of-id.ensures.id c.requires.leased.is_out).some in
    let below = c.self.invariant.waiting_below in
    let len : c.len-count.result ≡ length c.self.inside.kept.records.items = search rules in
    omega (arith, o, below, len)

pub join_children-requires-clause-new : goal.join_children-requires-clause-new
join_children-requires-clause-new c =
    let len : c.len-count.result ≡ length c.self.inside.kept.records.items = search rules in
    all_unborn (cutoff_for c.self.inside.problem c.self.inside.settings
    (reverse c.self.inside.journal.entries)) c.self.inside.kept.records.items
    c.self.inside.kept.waiting c.len-count.result (omega (arith, len))
    c.self.invariant.queued.each

pub join_children-requires-clause-next : goal.join_children-requires-clause-next
join_children-requires-clause-next c =
    let len : c.len-count.result ≡ length c.self.inside.kept.records.items = search rules in
    all_unborn (cutoff_for c.self.inside.problem c.self.inside.settings
    (reverse c.self.inside.journal.entries)) c.self.inside.kept.records.items
    c.self.inside.kept.waiting (c.len-count.result + 1) (omega (arith, len))
    c.self.invariant.queued.each

pub push_reserved-requires-in-Split-3 : goal.push_reserved-requires-in-Split-3
push_reserved-requires-in-Split-3 c =
    let here = out_at c.self.inside _ c.args.seat c.parts_of-id.result.0 _ c.self.invariant
    c.self.view_is c.parts_of-id.ensures.id c.requires.leased.is_out in
    let room = put_room _ _ _ _ _ _ _ _ c.parts_of-id.result.0 c.args.seat
    c.index_mut-parent.result.now c.self.invariant.follows here.is_out
    (slice_get-is c.self.inside.kept.records.items c.parts_of-id.result.0
    c.index_mut-parent.result.now here.born c.index_mut-parent.ensures.value) in
    room.room_left

pub invariant_of-self-in-Split : goal.invariant_of-self-in-Split
invariant_of-self-in-Split c =
    let here = out_at c.self.inside _ c.args.seat c.parts_of-id.result.0 _ c.self.invariant
    c.self.view_is c.parts_of-id.ensures.id c.requires.leased.is_out in
    let f = put_facts c.self.inside.problem c.self.inside.settings c.self.inside.journal.entries
    c.args.self.now c.args.seat c.args.lease c.args.outcome c.parts_of-id.result.0 _
    c.self.view_is c.parts_of-id.ensures.id c.in-Split.is c.requires in
    let b = here.born in
    let e = slice_get-is c.self.inside.kept.records.items c.parts_of-id.result.0
    c.index_mut-parent.result.now b c.index_mut-parent.ensures.value in
    let is_best : c.improve-value.result.value
    ≡ best_value_with c.self.inside.problem c.self.inside.kept.best c.args.outcome.found =
    c.improve-value.ensures.value ∙ ap (λ (p : Program). best_value_with p c.self.inside.kept.best
    c.args.outcome.found) c.get-problem.ensures in
    let fit : FitsSigned w128 c.args.outcome.low = search rules in
    let low : to_z w128 (of_z w128 c.args.outcome.low) ≡ c.args.outcome.low =
    to_z-of_z w128 _ fit in
    let pushed : c.push_reserved-in-Split-3.new.self.entries ≡ c.self.inside.journal.entries
    ++ c.put_of-in-Split.result ∷ [] = c.push_reserved-in-Split-3.ensures.entries in
    let fit_at : FitsSigned w64 c.in-Split.at = search rules in
    let at : to_z w64 (of_z w64 c.in-Split.at) ≡ c.in-Split.at = to_z-of_z w64 _ fit_at in
    let is : c.put_of-in-Split.result ≡ Put c.args.seat c.parts_of-id.result.0
    c.args.outcome.found c.args.outcome.low
    (Split c.in-Split.common c.in-Split.column c.in-Split.at) =
    c.put_of-in-Split.ensures
    ∙ (ap (λ z. Put c.args.seat c.parts_of-id.result.0 c.args.outcome.found z
    (Split c.in-Split.common c.in-Split.column (to_z w64 (of_z w64 c.in-Split.at)))) low
    ∙ ap (λ z. Put c.args.seat c.parts_of-id.result.0 c.args.outcome.found c.args.outcome.low
    (Split c.in-Split.common c.in-Split.column z)) at) in
    let made = pushed ∙ ap (λ (e : Entry). c.self.inside.journal.entries ++ e ∷ []) is in
    let fit' : FitsSigned w128 c.index_mut-parent.result.now.low = search rules in
    let fit_max : FitsSigned w128 c.max-child_low.result = search rules in
    let above = to_z-of_z w128 _ fit_max ∙ (c.max-child_low.ensures.value
    ∙ (ap (λ z. int_max z (to_z w128 (of_z w128 c.args.outcome.low))) (to_z-of_z w128 _ fit')
    ∙ ap (int_max c.index_mut-parent.result.now.low) low)) in
    let place = c.improve-value.ensures.place
    ∙ (ap (λ (p : Program). place_with p c.self.inside.kept.best c.args.outcome.found
    c.self.inside.kept.best_place c.len-now.result) c.get-problem.ensures
    ∙ ap (place_with c.self.inside.problem c.self.inside.kept.best c.args.outcome.found
    c.self.inside.kept.best_place) c.len-now.ensures) in
    let len : c.len-count.result ≡ length c.self.inside.kept.records.items = search rules in
    let all = split_list c.self.inside.kept.records.items _ _ c.parts_of-id.result.0
    c.len-count.result _ _ _ _ _ _ c.index_mut-parent.result.now _ _
    c.new_record.ensures c.new_record-in-Split.ensures c.push_reserved-in-Split.ensures.items
    c.push_reserved-in-Split-2.ensures.items in
    let now = outs_split _ _ _ _ _ _ _ _ _ c.parts_of-id.result.0 c.args.seat c.len-count.result _
    _ _ _ _ _ c.index_mut-parent.result.now c.self.inside.kept.outs c.self.invariant.follows
    f.may.is_out e c.self.invariant.outs_is all in
    let was =
    (kept_out _ _ _ _ _ _ _ _ c.parts_of-id.result.0 c.args.seat c.index_mut-parent.result.now
    c.self.invariant.follows f.may.is_out e).1 in
    let o = here.some in
    let old = c.self.invariant.waiting_room in
    let below = c.self.invariant.waiting_below in
    let wide = c.join_children.ensures.room in
    let kept_below = c.join_children.ensures.below in
    let full = desc_is c.self.inside.problem c.self.inside.settings c.self.inside.journal.entries
    c.args.seat c.parts_of-id.result.0 c.args.lease c.args.outcome _
    (described_by c.parts_of-id.result.1) f c.parts_of-id.ensures.gives in
    let better : c.improve-value.result.better
    ≡ improves c.self.inside.problem c.self.inside.kept.best c.args.outcome.found =
    c.improve-value.ensures.better ∙ ap
    (λ (p : Program). improves p c.self.inside.kept.best c.args.outcome.found)
    c.get-problem.ensures in
    let child : (Desc Cut → ℕ → ℤ → Desc Cut) → ℤ → Change Cut → Bool =
    λ which z x. box_has_point (which (changed x (described_by c.parts_of-id.result.1))
    c.in-Split.column z) in
    let opens_left = c.have_points-left_open.ensures.left
    ∙ (ap (λ (z : ℤ). child left_child z c.get.result.now) at
    ∙ ap (child left_child c.in-Split.at) c.get.ensures) in
    let opens_right = c.have_points-left_open.ensures.right
    ∙ (ap (λ (z : ℤ). child right_child z c.get.result.now) at
    ∙ ap (child right_child c.in-Split.at) c.get.ensures) in
    let n : c.len-count.result
    ≡ length (nodes_of c.self.inside.problem (reverse c.self.inside.journal.entries)) =
    len ∙ c.self.invariant.follows.records.count in
    let e0 : Entry = Put c.args.seat c.parts_of-id.result.0 c.args.outcome.found
    c.args.outcome.low (Split c.in-Split.common c.in-Split.column c.in-Split.at) in
    let grown : length (nodes_of c.self.inside.problem
    (e0 ∷ reverse c.self.inside.journal.entries))
    ≡ length (nodes_of c.self.inside.problem (reverse c.self.inside.journal.entries)) + 2 =
    length-append (nodes_of c.self.inside.problem (reverse c.self.inside.journal.entries)) _ in
    let y : Record = parted c.len-count.result c.index_mut-parent.result.now in
    let set : List Record = slice_set c.self.inside.kept.records.items c.parts_of-id.result.0 y in
    let long : length set ≡ length c.self.inside.kept.records.items =
    length-set c.self.inside.kept.records.items c.parts_of-id.result.0 y in
    let cut : Option ℤ = cutoff_for c.self.inside.problem c.self.inside.settings
    (e0 ∷ reverse c.self.inside.journal.entries) in
    let passed = all_passed cut c.self.inside.kept.records.items c.self.inside.kept.waiting
    c.parts_of-id.result.0 c.index_mut-parent.result.now y e
    (out_waits_not c.index_mut-parent.result.now.stage was) refl
    (put_moved c.self.inside.problem c.self.inside.settings (reverse
    c.self.inside.journal.entries) c.self.inside.kept.records.items c.self.inside.kept.waiting
    c.args.seat c.parts_of-id.result.0 c.args.outcome.found c.args.outcome.low
    (Split c.in-Split.common c.in-Split.column c.in-Split.at) c.self.invariant.queued.each) in
    let queued = all_split cut set c.self.inside.kept.waiting c.join_children.new.pool
    c.parts_of-id.result.0 c.len-count.result _ _ _ _ c.in-Split.left c.in-Split.right
    (omega (arith, len, long))
    c.join_children.ensures.left c.join_children.ensures.right c.join_children.ensures.others
    passed in
    let more_records = ap length all ∙ length-append set _ in
    let cands = c.self.invariant.candidate_room in
    let added = c.add.ensures.room in
    let added_two = c.add_two.ensures.room in
    let listed_below = c.self.invariant.candidate_below in
    let kept_listed = c.add.ensures.below in
    let kept_listed_two = c.add_two.ensures.below in
    rw c.have_points-left_open.ensures.same
    (record {
      listed = c.add_two.ensures.plain;
      covered = rw (made, reverse-push c.self.inside.journal.entries e0)
          (subst (λ (b : Bool). IsCovered c.self.inside.problem c.self.inside.settings
          (e0 ∷ reverse c.self.inside.journal.entries) (is_listed c.add_two.new.pool)
          (c.self.inside.kept.fell || b)) (sym better)
          (covered_put c.self.inside.problem c.self.inside.settings (reverse
          c.self.inside.journal.entries) (is_listed c.self.inside.kept.candidates)
          (is_listed c.add_two.new.pool) c.self.inside.kept.fell c.self.inside.kept.best
          c.args.seat c.parts_of-id.result.0
          c.args.outcome.found c.args.outcome.low
          (Split c.in-Split.common c.in-Split.column c.in-Split.at) f.may.is_out
          c.self.invariant.follows.best_is
          (λ q h. c.add_two.ensures.others q (c.add.ensures.others q h))
          (c.add_two.ensures.others c.parts_of-id.result.0 c.add.ensures.here)
          (λ q lo hi. two_listed (is_listed c.add_two.new.pool) c.len-count.result q
          c.add_two.ensures.here c.add_two.ensures.next (omega (arith, lo, n))
          (omega (arith, hi, grown, n))) c.self.invariant.covered));
      candidate_room = omega (arith, o, cands, added, added_two);
      candidate_below = omega (
        arith,
        o,
        listed_below,
        kept_listed,
        kept_listed_two,
        more_records,
        long,
      );
      queued = rw (made, reverse-push c.self.inside.journal.entries e0, all)
          (record {
            same_order = c.join_children.ensures.order
                ∙ c.self.invariant.queued.same_order;
            each = queued;
          });
      waiting_room = omega (arith, o, old, wide);
      waiting_below = omega (arith, o, below, kept_below, more_records, long);
      outs_is = now;
      follows = split_done _ _ _ _ _ _ _ _ _ _ _ _ _ _ c.parts_of-id.result.0 c.args.seat
          c.len-count.result c.args.lease c.args.outcome c.in-Split.common c.in-Split.column
          c.in-Split.at c.in-Split.left c.in-Split.right c.index_mut-parent.result.now _ _
          (described_by c.parts_of-id.result.1) _ _ _
          c.self.invariant.follows f e c.push_reserved-in-Split-3.ensures.room
          (c.push_reserved-in-Split-2.ensures.capacity ∙ c.push_reserved-in-Split.ensures.capacity)
          len full opens_left opens_right above c.new_record.ensures c.new_record-in-Split.ensures
          c.push_reserved-in-Split.ensures.items c.push_reserved-in-Split-2.ensures.items made
          is_best;
      stands = stands_put c.self.inside.problem c.self.inside.journal.entries _ c.args.seat
          c.parts_of-id.result.0 c.args.outcome.found c.args.outcome.low
          (Split c.in-Split.common c.in-Split.column c.in-Split.at)
          c.self.inside.kept.best c.self.inside.kept.best_place _ made
          c.self.invariant.follows.best_is place c.self.invariant.stands;
    })

pub add_two-requires-clause-room : goal.add_two-requires-clause-room
add_two-requires-clause-room c =
    let o = (out_at c.self.inside _ c.args.seat c.parts_of-id.result.0 _ c.self.invariant
    c.self.view_is c.parts_of-id.ensures.id c.requires.leased.is_out).some in
    let room = c.self.invariant.candidate_room in
    let added = c.add.ensures.room in
    omega (arith, o, room, added)

pub add_two-requires-clause-below : goal.add_two-requires-clause-below
add_two-requires-clause-below c =
    let o = (out_at c.self.inside _ c.args.seat c.parts_of-id.result.0 _ c.self.invariant
    c.self.view_is c.parts_of-id.ensures.id c.requires.leased.is_out).some in
    let below = c.self.invariant.candidate_below in
    let kept = c.add.ensures.below in
    let len : c.len-count.result ≡ length c.self.inside.kept.records.items = search rules in
    omega (arith, o, below, kept, len)

pub have_points-left_open-requires-clause-width : goal.have_points-left_open-requires-clause-width
have_points-left_open-requires-clause-width c =
    let f = put_facts c.self.inside.problem c.self.inside.settings c.self.inside.journal.entries
    c.args.self.now c.args.seat c.args.lease c.args.outcome c.parts_of-id.result.0 _
    c.self.view_is c.parts_of-id.ensures.id c.in-Split.is c.requires in
    let full = desc_is c.self.inside.problem c.self.inside.settings c.self.inside.journal.entries
    c.args.seat c.parts_of-id.result.0 c.args.lease c.args.outcome _
    (described_by c.parts_of-id.result.1) f c.parts_of-id.ensures.gives in
    ap (λ (d : Desc Cut). length d.lows) full
    ∙ full_columns c.self.inside.problem (reverse c.self.inside.journal.entries)
    c.parts_of-id.result.0

pub have_points-left_open-requires-clause-column : goal.have_points-left_open-requires-clause-column
have_points-left_open-requires-clause-column c =
    let f = put_facts c.self.inside.problem c.self.inside.settings c.self.inside.journal.entries
    c.args.self.now c.args.seat c.args.lease c.args.outcome c.parts_of-id.result.0 _
    c.self.view_is c.parts_of-id.ensures.id c.in-Split.is c.requires in
    let width = full_columns c.self.inside.problem (reverse c.self.inside.journal.entries)
    c.parts_of-id.result.0 in
    let column = f.may.sound.next_ok.column_in in
    omega (arith, width, column)
