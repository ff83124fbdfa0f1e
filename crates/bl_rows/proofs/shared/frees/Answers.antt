use Rattle.bl_turn.specs.Seats.{view_of}
use Rattle.bl_rows.proofs.Hopeless.{job_after}
use Rattle.bl_rows.proofs.shared.frees.Goals as goal

pub returns-in-Ok-Chain-clause-jobs : goal.returns-in-Ok-Chain-clause-jobs
returns-in-Ok-Chain-clause-jobs g c = λ job. job_after (view_of c.args.seat.now)
    (view_of c.free.new.seat) _ _ job c.jobs_stay.ensures c.requires.seat.seat.2
    c.in-Ok-Chain.ensures.freed

pub returns-in-Ok-Nothing-clause-jobs : goal.returns-in-Ok-Nothing-clause-jobs
returns-in-Ok-Nothing-clause-jobs g c = λ job. job_after (view_of c.args.seat.now)
    (view_of c.free.new.seat) _ _ job c.jobs_stay.ensures c.requires.seat.seat.2
    c.in-Ok-Nothing.ensures.freed

pub returns-in-Err-clause-jobs : goal.returns-in-Err-clause-jobs
returns-in-Err-clause-jobs g c = λ job. job_after (view_of c.args.seat.now)
    (view_of c.free.new.seat) _ _ job c.jobs_stay.ensures c.requires.seat.seat.2
    c.in-Err.ensures.err
