use Rattle.std.proofs.Common.{refl, ◌≡◌, ◌<◌, arith, rules, ℕ, ap, sym, subst, ◌∙◌, length}
use Rattle.std.proofs.Common.{length-set, Option}
use Rattle.std.specs.Prelude.{reverse, ℤ}
use Rattle.bl_pool.specs.declared.key.Key.{Key}
use Rattle.bl_pool.specs.Views.{key_in}
use Rattle.bl_journal.specs.States.{cutoff_for}
use Rattle.bl_journal.specs.declared.state.State.TheVariants.{Waiting as waiting}
use Rattle.bl_tree.specs.declared.record.Record.{Record}
use Rattle.bl_tree.specs.Records.{IsQueued, is_listed}
use Rattle.bl_tree.proofs.Outs.{out_waits_not, outs_ended}
use Rattle.bl_tree.proofs.Queues.{queued_not, queued_new, all_set}
use Rattle.bl_journal.specs.declared.entry.Entry.TheVariants.{Back}
use Rattle.bl_tree.proofs.Kept.{kept_out, kept_back}
use Rattle.bl_tree.proofs.Trees.{out_at}
use Rattle.bl_journal.proofs.Growth.{reverse-push}
use Rattle.bl_tree.proofs.Covers.{covered_back}
use Rattle.bl_tree.proofs.Searches.{slice_get-is}
use Rattle.bl_tree.proofs.Standing.{stands_more}
use Rattle.bl_tree.proofs.tree.Tree.back.Goals as goal

pub index_mut-record-requires : goal.index_mut-record-requires
index_mut-record-requires c =
    let k : length c.self.inside.kept.records.items ≡ c.self.inside.kept.records.len =
    search rules in
    omega (
      arith,
      (out_at c.self.inside _ c.args.seat c.number_of-id.result _ c.self.invariant
          c.self.view_is c.number_of-id.ensures c.requires.is_out).born,
      k,
    )

pub overflow_sub-self : goal.overflow_sub-self
overflow_sub-self c =
    omega (
      arith,
      (out_at c.self.inside _ c.args.seat c.number_of-id.result _ c.self.invariant
          c.self.view_is c.number_of-id.ensures c.requires.is_out).some,
    )

pub join_if-requires-clause-room : goal.join_if-requires-clause-room
join_if-requires-clause-room c =
    omega (
      arith,
      (out_at c.self.inside _ c.args.seat c.number_of-id.result _ c.self.invariant
          c.self.view_is c.number_of-id.ensures c.requires.is_out).some,
      c.self.invariant.waiting_room,
    )

pub join_if-requires-clause-below : goal.join_if-requires-clause-below
join_if-requires-clause-below c =
    omega (
      arith,
      (out_at c.self.inside _ c.args.seat c.number_of-id.result _ c.self.invariant
          c.self.view_is c.number_of-id.ensures c.requires.is_out).born,
      c.self.invariant.waiting_below,
      ap (λ (k : Key). k.id) c.key_of.ensures,
    )

pub join_if-requires-clause-new : goal.join_if-requires-clause-new
join_if-requires-clause-new c =
    let here = out_at c.self.inside _ c.args.seat c.number_of-id.result _ c.self.invariant
    c.self.view_is c.number_of-id.ensures c.requires.is_out in
    let e = slice_get-is c.self.inside.kept.records.items c.number_of-id.result
    c.index_mut-record.result.now here.born c.index_mut-record.ensures.value in
    let f = kept_out _ _ _ _ _ _ _ _ c.number_of-id.result c.args.seat
    c.index_mut-record.result.now c.self.invariant.follows here.is_out e in
    let cut : Option ℤ = cutoff_for c.self.inside.problem c.self.inside.settings
    (reverse c.self.inside.journal.entries) in
    let none = queued_not cut c.number_of-id.result c.index_mut-record.result.now
    (key_in c.self.inside.kept.waiting c.number_of-id.result)
    (subst (λ (x : Option Record). IsQueued cut c.number_of-id.result x
    (key_in c.self.inside.kept.waiting c.number_of-id.result)) e
    (c.self.invariant.queued.each c.number_of-id.result))
    (out_waits_not c.index_mut-record.result.now.stage f.1) in
    ap (key_in c.self.inside.kept.waiting) (ap (λ (k : Key). k.id) c.key_of.ensures) ∙ none

pub overflow_sub-self-2 : goal.overflow_sub-self-2
overflow_sub-self-2 c =
    omega (
      arith,
      (out_at c.self.inside _ c.args.seat c.number_of-id.result _ c.self.invariant
          c.self.view_is c.number_of-id.ensures c.requires.is_out).some,
      c.self.invariant.outs_is,
      c.self.invariant.follows.outs,
    )

pub push_reserved-requires : goal.push_reserved-requires
push_reserved-requires c =
    omega (
      arith,
      (out_at c.self.inside _ c.args.seat c.number_of-id.result _ c.self.invariant
          c.self.view_is c.number_of-id.ensures c.requires.is_out).some,
      c.self.invariant.outs_is,
      c.self.invariant.follows.room_is,
    )

pub add-requires-clause-room : goal.add-requires-clause-room
add-requires-clause-room c =
    omega (
      arith,
      (out_at c.self.inside _ c.args.seat c.number_of-id.result _ c.self.invariant
          c.self.view_is c.number_of-id.ensures c.requires.is_out).some,
      c.self.invariant.candidate_room,
    )

pub add-requires-clause-below : goal.add-requires-clause-below
add-requires-clause-below c =
    omega (
      arith,
      (out_at c.self.inside _ c.args.seat c.number_of-id.result _ c.self.invariant
          c.self.view_is c.number_of-id.ensures c.requires.is_out).born,
      c.self.invariant.candidate_below,
    )

pub invariant_of-self : goal.invariant_of-self
invariant_of-self c =
    let here = out_at c.self.inside _ c.args.seat c.number_of-id.result _ c.self.invariant
    c.self.view_is c.number_of-id.ensures c.requires.is_out in
    let o = here.is_out in
    let b = here.born in
    let e = slice_get-is c.self.inside.kept.records.items c.number_of-id.result
    c.index_mut-record.result.now b c.index_mut-record.ensures.value in
    let made = c.push_reserved.ensures.entries in
    let now = outs_ended _ _ _ _ _ _ _ _ c.number_of-id.result c.args.seat
    c.index_mut-record.result.now (record c.index_mut-record.result.now { stage = waiting })
    c.self.inside.kept.outs c.self.invariant.follows o e c.self.invariant.outs_is refl in
    let y : Record = record c.index_mut-record.result.now { stage = waiting } in
    let cut : Option ℤ = cutoff_for c.self.inside.problem c.self.inside.settings
    (reverse c.self.inside.journal.entries) in
    let key = c.key_of.ensures in
    let same : c.key_of.result.id ≡ c.number_of-id.result = ap (λ (k : Key). k.id) key in
    let joined = queued_new cut c.number_of-id.result y c.key_of.result
    (key_in c.join_if.new.pool c.number_of-id.result) refl key
    (ap (key_in c.join_if.new.pool) (sym same) ∙ c.join_if.ensures.here) in
    let queued = all_set cut c.self.inside.kept.records.items c.self.inside.kept.waiting
    c.join_if.new.pool c.number_of-id.result c.index_mut-record.result.now y e joined
    (λ q ne. c.join_if.ensures.others q (λ i. ne (i ∙ same))) c.self.invariant.queued.each in
    let f = (kept_out _ _ _ _ _ _ _ _ c.number_of-id.result c.args.seat
    c.index_mut-record.result.now c.self.invariant.follows o e).0 in
    let outs = c.self.invariant.outs_is in
    let old = c.self.invariant.waiting_room in
    let wider = c.join_if.ensures.room in
    let below = c.self.invariant.waiting_below in
    let kept_below = c.join_if.ensures.below in
    let long = length-set c.self.inside.kept.records.items c.number_of-id.result y in
    let added = c.add.ensures.room in
    let room = c.self.invariant.candidate_room in
    let listed_below = c.self.invariant.candidate_below in
    let kept_listed = c.add.ensures.below in
    record {
      follows =
          rw (
            made,
            reverse-push c.self.inside.journal.entries
                (Back c.args.seat c.number_of-id.result),
          )
          (kept_back _ _ _ _ _ _ _ _ _ c.number_of-id.result c.args.seat
          c.index_mut-record.result.now c.self.invariant.follows o e
          c.push_reserved.ensures.room);
      stands = rw made (stands_more c.self.inside.problem c.self.inside.journal.entries
          (Back c.args.seat c.number_of-id.result) c.self.inside.kept.best_place refl
          c.self.invariant.stands);
      queued = rw (
        made,
        reverse-push c.self.inside.journal.entries
            (Back c.args.seat c.number_of-id.result),
      )
          (record {
            same_order = c.join_if.ensures.order
                ∙ c.self.invariant.queued.same_order;
            each = queued;
          });
      waiting_room = omega (arith, wider, old, f, outs);
      waiting_below = omega (arith, below, kept_below, long, f, outs);
      outs_is = now;
      listed = c.add.ensures.plain;
      covered =
          rw (
            made,
            reverse-push c.self.inside.journal.entries
                (Back c.args.seat c.number_of-id.result),
          )
          (covered_back c.self.inside.problem c.self.inside.settings
          (reverse c.self.inside.journal.entries) (is_listed c.self.inside.kept.candidates)
          (is_listed c.add.new.pool) c.self.inside.kept.fell c.args.seat c.number_of-id.result o
          c.add.ensures.others c.add.ensures.here c.self.invariant.covered);
      candidate_room = omega (arith, added, room, f, outs);
      candidate_below = omega (arith, listed_below, kept_listed, long, f, outs);
    }
