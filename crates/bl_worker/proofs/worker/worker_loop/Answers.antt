use Rattle.bl_turn.specs.Seats.{view_of}
use Rattle.bl_search.specs.Places.{MayAnswer}
use Rattle.bl_worker.proofs.Steps.{kept_up_none}
use Rattle.bl_worker.proofs.Rounds.{begins, grows_kept}
use Rattle.bl_worker.proofs.Serials.{no_serials}
use Rattle.bl_worker.proofs.Splitting.{no_splits}
use Rattle.bl_worker.proofs.worker.worker_loop.Goals as goal

pub loop-init : goal.loop-init
loop-init g c =
    let v = view_of c.args.seat.now in (
      c.requires.seat,
      begins v c.requires.seat.2 c.requires.fresh,
      no_serials v c.requires.seat.2 c.requires.fresh,
      grows_kept v v (kept_up_none v),
      no_splits (MayAnswer g.F.Fn c.args.rule.now.closure) v c.requires.seat.2 c.requires.fresh,
    )
