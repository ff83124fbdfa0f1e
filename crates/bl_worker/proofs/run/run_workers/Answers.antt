use Rattle.std.proofs.Common.{List, length, map, ap, sym, ◌∙◌, subst, arith, All}
use Rattle.bl_turn.specs.Seats.{view_of}
use Rattle.bl_tree.specs.Views.{past_of}
use Rattle.bl_search.specs.Places.{MayAnswer}
use Rattle.bl_shared.specs.Calls.{Knows, tree_seen}
use Rattle.bl_worker.specs.declared.run.Job.{Job}
use Rattle.bl_worker.specs.Jobs.{AreWorkerSeats, IsReady, HaveJoined}
use Rattle.bl_worker.specs.Ends.{HaveEnded}
use Rattle.bl_worker.proofs.Splitting.{splits_map}
use Rattle.bl_worker.proofs.Joining.{all_ready, written_back}
use Rattle.bl_worker.proofs.Ending.{have_ended, places_at_end, some_job}
use Rattle.bl_worker.proofs.run.run_workers.Goals as goal

pub run_all-requires-clause-ready : goal.run_all-requires-clause-ready
run_all-requires-clause-ready g c κs within =
    subst (All (IsReady c.args.tree.now c.args.problem.now c.args.span))
    (sym c.as_mut_slice.ensures.value)
    (all_ready c.args.tree.now (view_of c.args.seat.now) c.args.workers c.split_all.new.jobs.items
    c.args.problem.now c.args.span c.split_all.ensures.seats c.split_all.ensures.count
    c.requires.others c.requires.problem c.requires.span)

pub returns-clause-ended : goal.returns-clause-ended
returns-clause-ended g c =
    let v = view_of c.args.seat.now in
    let w = view_of c.join_all.new.seat in
    let before = c.as_mut_slice.result.now in
    let count = ap length c.as_mut_slice.ensures.value ∙ c.split_all.ensures.count in
    let some = c.requires.some_workers in
    let seats = subst (AreWorkerSeats c.args.tree.now v) (sym c.as_mut_slice.ensures.value)
    c.split_all.ensures.seats in
    let written = written_back c.split_all.new.jobs.len c.run_all.new.jobs
    c.split_all.new.jobs.items (c.run_all.ensures.count ∙ c.as_mut_slice.ensures.len)
    (sym (ap length c.as_mut_slice.ensures.value) ∙ c.as_mut_slice.ensures.len) in
    let joined = subst (λ (u : Knows). HaveJoined u c.run_all.new.jobs w) c.split_all.ensures.view
    (subst (λ (jobs : List Job). HaveJoined (view_of c.split_all.new.seat) jobs w) written
    c.join_all.ensures.joined) in
    let ends = c.ends_of.ensures
    ∙ ap (map (λ (j : Job). j.end)) (c.as_slice.ensures.value ∙ written) in
    let all =
    have_ended c.holders_are_told.ensures c.searches_end.ensures c.seats_stay_tidy.ensures _
    c.args.tree.now v w c.args.workers before c.run_all.new.jobs c.requires.seat.2.legal
    c.join_all.ensures.seat.2.legal count c.run_all.ensures.count
    seats c.run_all.ensures.run joined (some_job before (omega (arith, count, some)))
    c.requires.none_out c.requires.others c.requires.some_workers in
    subst (λ es. HaveEnded c.args.workers v es w) (sym ends) all

pub returns-clause-places : goal.returns-clause-places
returns-clause-places g c =
    let v = view_of c.args.seat.now in
    let w = view_of c.join_all.new.seat in
    let before = c.as_mut_slice.result.now in
    let count = ap length c.as_mut_slice.ensures.value ∙ c.split_all.ensures.count in
    let some = c.requires.some_workers in
    let seats = subst (AreWorkerSeats c.args.tree.now v) (sym c.as_mut_slice.ensures.value)
    c.split_all.ensures.seats in
    let written = written_back c.split_all.new.jobs.len c.run_all.new.jobs
    c.split_all.new.jobs.items (c.run_all.ensures.count ∙ c.as_mut_slice.ensures.len)
    (sym (ap length c.as_mut_slice.ensures.value) ∙ c.as_mut_slice.ensures.len) in
    let joined = subst (λ (u : Knows). HaveJoined u c.run_all.new.jobs w) c.split_all.ensures.view
    (subst (λ (jobs : List Job). HaveJoined (view_of c.split_all.new.seat) jobs w) written
    c.join_all.ensures.joined) in
    let all =
    places_at_end c.holders_are_told.ensures c.searches_end.ensures c.seats_stay_tidy.ensures _
    c.args.tree.now v w c.args.workers before c.run_all.new.jobs c.requires.seat.2.legal
    c.join_all.ensures.seat.2.legal count c.run_all.ensures.count
    seats c.run_all.ensures.run joined (some_job before (omega (arith, count, some))) in
    λ seat one few.
    splits_map
    (MayAnswer (record {
      pre = λ f a. g.F.Fn.pre f a;
      post = g.F.Fn.post;
      steps =
          g.F.Fn.steps;
    }) c.args.rule.now.closure) (MayAnswer g.F.Fn c.args.rule.now.closure) seat
    (tree_seen w).problem (past_of (tree_seen w))
    (all seat one few)
    (λ d place k. (
      k.0,
      record {
        desc = k.1.desc;
        point = k.1.point;
        shows_desc =
            k.1.shows_desc;
        shows_point = k.1.shows_point;
        says = k.1.says;
      },
    ))
