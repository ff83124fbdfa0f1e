use Rattle.bl_turn.specs.Seats.{view_of}
use Rattle.bl_shared.specs.Calls.{tree_seen}
use Rattle.bl_search.specs.Places.{MayAnswer}
use Rattle.bl_worker.proofs.Handing.{workable_now, handed_fits, handed_serials, handed_places}
use Rattle.bl_worker.proofs.Handing.{back_places}
use Rattle.bl_worker.proofs.worker.finish.Goals as goal

pub work_on-requires-clause-leased : goal.work_on-requires-clause-leased
work_on-requires-clause-leased g c = λ κs lives.
    let v = view_of c.args.seat.now in (
      tree_seen v,
      workable_now c.args.problem.now c.args.span c.number-worker.result c.args.serial v
          c.args.lease c.number-worker.ensures c.requires.seat.2 c.requires.problem
          c.requires.span c.requires.leased c.requires.serials,
    )

pub put-born-requires-clause-fits : goal.put-born-requires-clause-fits
put-born-requires-clause-fits g c = λ κs lives.
    handed_fits _ c.args.problem.now c.args.span c.number-worker.result c.args.serial
    c.in-Ok.field-0.serial (view_of c.args.seat.now) c.args.lease c.in-Ok.field-0.outcome
    c.number-worker.ensures c.requires.problem c.requires.span c.requires.serials
    c.in-Ok.ensures
    c.requires.seat.2 c.requires.leased

pub returns-in-Ok-clause-serials : goal.returns-in-Ok-clause-serials
returns-in-Ok-clause-serials g c =
    handed_serials _ c.args.problem.now c.args.span c.number-worker.result c.args.serial
    c.in-Ok.field-0.serial (view_of c.args.seat.now) c.args.lease c.in-Ok.field-0.outcome
    c.number-worker.ensures c.requires.problem c.requires.span c.requires.serials
    c.in-Ok.ensures
    (view_of c.put-born.new.seat) c.put-born.result c.put-born.ensures.put

pub returns-in-Ok-clause-places : goal.returns-in-Ok-clause-places
returns-in-Ok-clause-places g c =
    handed_places _ c.args.problem.now c.args.span c.number-worker.result c.args.serial
    c.in-Ok.field-0.serial (view_of c.args.seat.now) c.args.lease c.in-Ok.field-0.outcome
    c.number-worker.ensures c.requires.problem c.requires.span c.requires.serials
    c.in-Ok.ensures
    (view_of c.put-born.new.seat) c.put-born.result c.put-born.ensures.put
    (MayAnswer g.F.Fn c.args.rule.now.closure)
    (λ d place k. (
      k.0,
      record {
        desc = k.1.desc;
        point = k.1.point;
        shows_desc =
            k.1.shows_desc;
        shows_point = k.1.shows_point;
        says = k.1.says;
      },
    )) c.requires.places

pub returns-in-Err-clause-places : goal.returns-in-Err-clause-places
returns-in-Err-clause-places g c =
    back_places (MayAnswer g.F.Fn c.args.rule.now.closure) (view_of c.args.seat.now)
    (view_of c.back.new.seat) c.args.lease c.back.ensures.back c.requires.places
