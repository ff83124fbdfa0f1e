use Rattle.std.proofs.Common.{◌++◌, ap, ◌∙◌, subst, All}
use Rattle.std.specs.Prelude.{option_to_list}
use Rattle.bl_turn.specs.Seats.{view_of}
use Rattle.bl_shared.specs.Calls.{IsSeatOf}
use Rattle.bl_worker.proofs.Joining.{none_joined, one_joined, last_of, but_last}
use Rattle.bl_worker.proofs.run.join_all.Goals as goal

pub loop-job-init : goal.loop-job-init
loop-job-init c = (
  c.requires.seat,
  none_joined (view_of c.args.seat.now) c.args.jobs.items,
  c.requires.seats,
)

pub join-requires-clause-other : goal.join-requires-clause-other
join-requires-clause-other c =
    let popped = c.pop.ensures.items ∙ ap (λ o. c.pop.new.self.items ++ option_to_list o)
    c.in-Some.is in
    last_of (λ j. IsSeatOf c.args.tree.now j.seat) c.pop.new.self.items c.in-Some.job
    (subst (All (λ j. IsSeatOf c.args.tree.now j.seat)) popped c.loop-job.invariant.2)

pub loop-job-preserved : goal.loop-job-preserved
loop-job-preserved c =
    let popped = c.pop.ensures.items ∙ ap (λ o. c.pop.new.self.items ++ option_to_list o)
    c.in-Some.is in (
      c.join.ensures.seat,
      one_joined (view_of c.args.seat.now) (view_of c.loop-job.seat) (view_of c.join.new.seat)
          c.args.jobs.items c.loop-job.jobs.items c.pop.new.self.items c.in-Some.job popped
          c.loop-job.invariant.1 c.join.ensures.view
          c.join.ensures.others.0 c.join.ensures.others.1 c.join.ensures.others.2
          c.join.ensures.met c.join.ensures.ended,
      but_last (λ j. IsSeatOf c.args.tree.now j.seat) c.pop.new.self.items c.in-Some.job
          (subst (All (λ j. IsSeatOf c.args.tree.now j.seat)) popped c.loop-job.invariant.2),
    )
