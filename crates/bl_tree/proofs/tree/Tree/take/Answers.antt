use Rattle.std.proofs.Common.{◌≡◌, ◌<◌, ◌≤◌, ◌+◌, [], ◌∷◌, ◌++◌, arith, rules, Some, None, sym}
use Rattle.std.proofs.Common.{ap, ◌∙◌, subst, refl, List, length, true, false, get_or, ◌*◌}
use Rattle.std.proofs.Common.{Option, length-set}
use Rattle.std.specs.Prelude.{reverse, nat_lt, count_by, ℤ, FitsSigned, vec_capacity, is_some}
use Rattle.std.proofs.lemmas.Bool.{lt-ltb, le-ltb}
use Rattle.std.proofs.lemmas.Int.{to_z-of_z}
use Rattle.std.specs.Int.{w128}
use mir.Val.{to_z, of_z}
use Rattle.bl_journal.specs.declared.entry.Entry.{Entry}
use Rattle.bl_journal.specs.declared.entry.Entry.TheVariants.{Take}
use Rattle.bl_journal.specs.Descriptions.{full_of}
use Rattle.bl_journal.specs.Pieces.{chain_of}
use Rattle.bl_journal.specs.States.{state_of, cutoff_for}
use Rattle.bl_journal.specs.declared.state.State.TheVariants.{Waiting as waiting, Out as out}
use Rattle.bl_journal.specs.declared.state.State.TheVariants.{Freed as freed}
use Rattle.bl_tree.specs.Answers.{IsBorn}
use Rattle.bl_tree.specs.Views.{TreeView, past_of, LeaseView, pieces_of}
use Rattle.bl_tree.specs.declared.record.Record.{Record}
use Rattle.bl_journal.specs.Replies.{take_reply, reply_for, idle, done, spent, gives, any_out}
use Rattle.bl_journal.specs.Replies.{is_out}
use Rattle.bl_journal.proofs.Living.{take_gives}
use Rattle.bl_journal.proofs.Leaves.{is_waiting-is}
use Rattle.bl_tree.specs.Records.{is_listed}
use Rattle.bl_tree.proofs.Outs.{someone_out, outs_taken}
use Rattle.bl_tree.proofs.Queues.{all_left, all_same}
use Rattle.bl_tree.proofs.Kept.{kept_take, taken_lease, IsTaken-moved}
use Rattle.bl_journal.proofs.Growth.{reverse-push}
use Rattle.bl_tree.proofs.Searches.{slice_get-is}
use Rattle.bl_tree.proofs.Standing.{stands_more}
use Rattle.bl_tree.proofs.Chained.{rebuilt_is}
use Rattle.bl_tree.proofs.Covers.{candidate_stays, covered_take}
use Rattle.bl_tree.proofs.Keys.{same_candidates}
use Rattle.bl_tree.proofs.Trees.{tree_room, replies, gives_first}
use Rattle.bl_tree.proofs.tree.Tree.take.Goals as goal

pub returns-then-self-gt0-clause-taken : goal.returns-then-self-gt0-clause-taken
returns-then-self-gt0-clause-taken c =
    let v = c.self.view_is ∙ c.next_live.ensures.same in
    let r = replies c.self.inside c.args.self.now c.next_live.result c.self.invariant
    (c.self.view_is ∙ c.next_live.ensures.same) c.next_live.ensures.next in
    let a = someone_out _ _ _ _ _ _ _ _ c.self.inside.kept.outs c.self.invariant.follows
    c.self.invariant.outs_is in
    let e : take_reply c.self.inside.problem c.self.inside.settings
    (reverse c.self.inside.journal.entries) ≡ idle =
    r ∙ (ap (λ o. reply_for o (nat_lt c.self.inside.kept.used c.self.inside.settings.nodes)
    (any_out c.self.inside.problem (reverse c.self.inside.journal.entries))) c.in_default.is
    ∙ ap (reply_for None (nat_lt c.self.inside.kept.used c.self.inside.settings.nodes))
    (a ∙ lt-ltb 0 c.self.inside.kept.outs c.if-self-gt0.true)) in (
      subst (λ (t : TreeView). take_reply t.problem t.settings (past_of t) ≡ idle) v e,
      c.next_live.ensures.same,
    )

pub returns-in_default-clause-taken : goal.returns-in_default-clause-taken
returns-in_default-clause-taken c =
    let v = c.self.view_is ∙ c.next_live.ensures.same in
    let r = replies c.self.inside c.args.self.now c.next_live.result c.self.invariant
    (c.self.view_is ∙ c.next_live.ensures.same) c.next_live.ensures.next in
    let a = someone_out _ _ _ _ _ _ _ _ c.self.inside.kept.outs c.self.invariant.follows
    c.self.invariant.outs_is in
    let e : take_reply c.self.inside.problem c.self.inside.settings
    (reverse c.self.inside.journal.entries) ≡ done =
    r ∙ (ap (λ o. reply_for o (nat_lt c.self.inside.kept.used c.self.inside.settings.nodes)
    (any_out c.self.inside.problem (reverse c.self.inside.journal.entries))) c.in_default.is
    ∙ ap (reply_for None (nat_lt c.self.inside.kept.used c.self.inside.settings.nodes))
    (a ∙ le-ltb 0 c.self.inside.kept.outs c.if-self-gt0.false)) in (
      subst (λ (t : TreeView). take_reply t.problem t.settings (past_of t) ≡ done) v e,
      c.next_live.ensures.same,
    )

pub returns-then-self-clause-taken : goal.returns-then-self-clause-taken
returns-then-self-clause-taken c =
    let v = c.self.view_is ∙ c.next_live.ensures.same in
    let r = replies c.self.inside c.args.self.now c.next_live.result c.self.invariant
    (c.self.view_is ∙ c.next_live.ensures.same) c.next_live.ensures.next in
    let l : nat_lt c.self.inside.kept.used c.self.inside.settings.nodes ≡ false =
    le-ltb c.self.inside.kept.used c.self.inside.settings.nodes c.if-self.true in
    let e : take_reply c.self.inside.problem c.self.inside.settings
    (reverse c.self.inside.journal.entries) ≡ spent =
    r ∙ (ap (λ o. reply_for o (nat_lt c.self.inside.kept.used c.self.inside.settings.nodes)
    (any_out c.self.inside.problem (reverse c.self.inside.journal.entries))) c.in-Some.is
    ∙ ap (λ b. reply_for (Some c.in-Some.id) b
    (any_out c.self.inside.problem (reverse c.self.inside.journal.entries))) l) in (
      subst (λ (t : TreeView). take_reply t.problem t.settings (past_of t) ≡ spent) v e,
      c.next_live.ensures.same,
    )

pub chain_to-requires-clause-born : goal.chain_to-requires-clause-born
chain_to-requires-clause-born c =
    let t = gives_first c.self.inside c.args.self.now c.next_live.result c.in-Some.id
    c.self.invariant (c.self.view_is ∙ c.next_live.ensures.same) c.next_live.ensures.next
    c.in-Some.is c.if-self.false in
    subst (λ (v : TreeView). IsBorn v c.in-Some.id) c.self.view_is
    (take_gives c.self.inside.problem c.self.inside.settings _ c.in-Some.id t).born

pub chain_to-requires-clause-stands : goal.chain_to-requires-clause-stands
chain_to-requires-clause-stands c =
    let t = gives_first c.self.inside c.args.self.now c.next_live.result c.in-Some.id
    c.self.invariant (c.self.view_is ∙ c.next_live.ensures.same) c.next_live.ensures.next
    c.in-Some.is c.if-self.false in
    let w : state_of (reverse c.self.inside.journal.entries) c.in-Some.id ≡ waiting =
    is_waiting-is _ (take_gives c.self.inside.problem c.self.inside.settings _ c.in-Some.id
    t).waits in
    subst (λ (v : TreeView). state_of (past_of v) c.in-Some.id ≡ freed → ⊥) c.self.view_is
    (λ f. let g : waiting ≡ freed = sym w ∙ f in cc)

pub invariant_of-self : goal.invariant_of-self
invariant_of-self c =
    tree_room c.self.inside _ c.self.invariant refl c.reserve.ensures.entries refl refl
    (λ id. refl) c.self.invariant.listed (λ q h. h) c.reserve.ensures.kept (omega arith)
    (omega arith) (omega arith) (omega arith) (omega arith)

pub invariant_of-self-in_err-make_room : goal.invariant_of-self-in_err-make_room
invariant_of-self-in_err-make_room c =
    tree_room c.self.inside _ c.self.invariant refl c.reserve.ensures.entries
    c.make_room.ensures.records c.make_room.ensures.order c.make_room.ensures.waiting
    (same_candidates c.self.inside.kept.candidates c.make_room.new.candidates
    c.make_room.ensures.candidate_order c.make_room.ensures.candidates c.self.invariant.listed)
    (λ q h. ap is_some (c.make_room.ensures.candidates q) ∙ h)
    c.reserve.ensures.kept c.make_room.ensures.record_room c.make_room.ensures.waiting_room
    c.make_room.ensures.waiting_below c.make_room.ensures.candidate_room
    c.make_room.ensures.candidate_below

pub invariant_of-result : goal.invariant_of-result
invariant_of-result c = record {
  whole = c.in_ok-chain.ensures.sound.whole;
  fits =
      c.in_ok-chain.ensures.sound.fits;
}

pub index_mut-record-requires : goal.index_mut-record-requires
index_mut-record-requires c =
    let t = gives_first c.self.inside c.args.self.now c.next_live.result c.in-Some.id
    c.self.invariant (c.self.view_is ∙ c.next_live.ensures.same) c.next_live.ensures.next
    c.in-Some.is c.if-self.false in
    let born = (take_gives c.self.inside.problem c.self.inside.settings _ c.in-Some.id t).born in
    let count = c.self.invariant.follows.records.count in
    let kept = ap length c.make_room.ensures.records in
    let len : length c.make_room.new.records.items ≡ c.make_room.new.records.len = search rules in
    omega (arith, born, count, kept, len)

pub invariant_of-self-2 : goal.invariant_of-self-2
invariant_of-self-2 c =
    let left : c.self.inside.kept.used < c.self.inside.settings.nodes = c.if-self.false in
    let t = gives_first c.self.inside c.args.self.now c.next_live.result c.in-Some.id
    c.self.invariant (c.self.view_is ∙ c.next_live.ensures.same) c.next_live.ensures.next
    c.in-Some.is c.if-self.false in
    let born = (take_gives c.self.inside.problem c.self.inside.settings _ c.in-Some.id t).born in
    let count = c.self.invariant.follows.records.count in
    let b : c.in-Some.id < length c.self.inside.kept.records.items = omega (arith, born, count) in
    let kept : c.make_room.new.records.items ≡ c.self.inside.kept.records.items =
    c.make_room.ensures.records in
    let e = slice_get-is c.self.inside.kept.records.items c.in-Some.id
    c.index_mut-record.result.now b
    (c.index_mut-record.ensures.value
    ∙ ap (λ l. get_or l c.in-Some.id c.index_mut-record.result.now) kept) in
    let h = c.push_reserved.ensures.entries ∙ ap (λ es. es ++ Take c.args.seat c.in-Some.id ∷ [])
    c.reserve.ensures.entries in
    let outs = c.self.invariant.outs_is in
    let asked = c.in_ok-reserve.ensures.room in
    let room = c.push_reserved.ensures.room in
    let fits : count_by (λ (q : Record). is_out q.stage) c.self.inside.kept.records.items + 1
    ≤ c.push_reserved.new.self.room = omega (arith, outs, asked, room) in
    let more = c.in_ok-make_room.ensures in
    let asked2 = more.more_records in
    let len2 = ap length kept in
    let holds : length c.self.inside.kept.records.items
    + 2 * (count_by (λ (q : Record). is_out q.stage) c.self.inside.kept.records.items + 1)
    ≤ vec_capacity c.make_room.new.records =
    omega (arith, outs, asked2, len2) in
    let now = outs_taken _ _ _ _ _ _ _ _ c.in-Some.id c.args.seat c.index_mut-record.result.now
    c.self.inside.kept.outs c.self.invariant.follows t e outs in
    let asked3 = more.more_waiting in
    let wide = c.leave.ensures.room in
    let asked5 = more.more_below in
    let below = c.leave.ensures.below in
    let long = length-set c.self.inside.kept.records.items c.in-Some.id
    (record c.index_mut-record.result.now { stage = out c.args.seat }) in
    let queue = c.self.invariant.queued in
    let cut : Option ℤ = cutoff_for c.self.inside.problem c.self.inside.settings
    (reverse c.self.inside.journal.entries) in
    let queued = all_left cut c.self.inside.kept.records.items c.make_room.new.waiting
    c.leave.new.pool c.in-Some.id c.index_mut-record.result.now
    (record c.index_mut-record.result.now { stage = out c.args.seat }) e refl
    c.leave.ensures.keys
    (all_same cut c.self.inside.kept.records.items c.self.inside.kept.waiting
    c.make_room.new.waiting c.make_room.ensures.waiting queue.each) in
    let asked4 = more.more_candidates in
    let covered = covered_take c.self.inside.problem c.self.inside.settings
    (reverse c.self.inside.journal.entries) (is_listed c.make_room.new.candidates)
    c.self.inside.kept.fell c.args.seat c.in-Some.id t
    (λ q h g. candidate_stays (is_listed c.self.inside.kept.candidates)
    (is_listed c.make_room.new.candidates) c.self.inside.kept.fell c.self.inside.kept.fell
    (reverse c.self.inside.journal.entries) (reverse c.self.inside.journal.entries) q
    (λ a. ap is_some (c.make_room.ensures.candidates q) ∙ a) (λ a. a) refl
    (c.self.invariant.covered q h g)) in
    let asked6 = more.more_candidates_below in
    record {
      follows = rw (
        h,
        reverse-push c.self.inside.journal.entries (Take c.args.seat c.in-Some.id),
        kept,
      )
          (kept_take _ _ _ _ _ _ _ _ _ _ c.in-Some.id c.args.seat c.index_mut-record.result.now
          c.self.invariant.follows t e left fits holds);
      stands = rw h (stands_more c.self.inside.problem c.self.inside.journal.entries
          (Take c.args.seat c.in-Some.id) c.self.inside.kept.best_place refl
          c.self.invariant.stands);
      queued = rw (
        h,
        reverse-push c.self.inside.journal.entries (Take c.args.seat c.in-Some.id),
        kept,
      )
          (record {
            same_order = c.leave.ensures.order
                ∙ (c.make_room.ensures.order ∙ queue.same_order);
            each = queued;
          });
      waiting_room = omega (arith, asked3, wide);
      waiting_below = rw kept (omega (arith, asked5, below, long, len2));
      outs_is = rw kept now;
      covered = rw (h, reverse-push c.self.inside.journal.entries (Take c.args.seat c.in-Some.id))
          covered;
      listed = same_candidates c.self.inside.kept.candidates c.make_room.new.candidates
          c.make_room.ensures.candidate_order c.make_room.ensures.candidates
          c.self.invariant.listed;
      candidate_room = omega (arith, asked4);
      candidate_below = rw kept (omega (arith, asked6, long, len2));
    }

pub returns-clause-taken : goal.returns-clause-taken
returns-clause-taken c =
    let cut = c.cutoff-cutoff.ensures
    ∙ ap (λ (t : TreeView). cutoff_for t.problem t.settings (past_of t)) (sym c.self.view_is) in
    let v = c.self.view_is ∙ c.next_live.ensures.same in
    let t = gives_first c.self.inside c.args.self.now c.next_live.result c.in-Some.id
    c.self.invariant (c.self.view_is ∙ c.next_live.ensures.same) c.next_live.ensures.next
    c.in-Some.is c.if-self.false in
    let born = (take_gives c.self.inside.problem c.self.inside.settings _ c.in-Some.id t).born in
    let count = c.self.invariant.follows.records.count in
    let b : c.in-Some.id < length c.self.inside.kept.records.items = omega (arith, born, count) in
    let kept : c.make_room.new.records.items ≡ c.self.inside.kept.records.items =
    c.make_room.ensures.records in
    let e = slice_get-is c.self.inside.kept.records.items c.in-Some.id
    c.index_mut-record.result.now b
    (c.index_mut-record.ensures.value
    ∙ ap (λ l. get_or l c.in-Some.id c.index_mut-record.result.now) kept) in
    let h = c.push_reserved.ensures.entries ∙ ap (λ es. es ++ Take c.args.seat c.in-Some.id ∷ [])
    c.reserve.ensures.entries in
    let k = c.self.invariant.follows in
    let fit : FitsSigned w128 c.index_mut-record.result.now.low = search rules in
    let low : to_z w128 (of_z w128 c.index_mut-record.result.now.low)
    ≡ c.index_mut-record.result.now.low = to_z-of_z w128 _ fit in
    let is = c.in_ok-chain.ensures.pieces
    ∙ ap (λ (v : TreeView). chain_of v.problem v.settings (past_of v) c.in-Some.id)
    (sym c.self.view_is) in
    let rebuilds = rebuilt_is c.in_ok-chain.chain _ c.in_ok-chain.ensures.sound
    ∙ ap (λ (v : TreeView). Some (full_of v.problem (past_of v) c.in-Some.id))
    (sym c.self.view_is) in
    let base = taken_lease c.self.inside.problem c.self.inside.settings
    c.self.inside.journal.entries c.self.inside.kept.records.items c.cutoff-cutoff.result
    c.in-Some.id c.args.seat
    c.index_mut-record.result.now (pieces_of c.in_ok-chain.chain) k.records cut e is rebuilds t in
    let leased : ℤ → LeaseView =
    λ z. record {
      id = c.in-Some.id;
      depth = c.index_mut-record.result.now.depth;
      low =
          z;
      cutoff = c.cutoff-cutoff.result;
      chain = pieces_of c.in_ok-chain.chain;
    } in
    let after : List Entry → TreeView =
    λ es. record {
      problem = c.self.inside.problem;
      settings =
          c.self.inside.settings;
      history = es;
    } in
    IsTaken-moved v (ap leased (sym low)) (ap after (sym h)) base
