use Rattle.std.proofs.Common.{subst}
use Rattle.bl_tree.specs.declared.plan.Planned.{Planned}
use Rattle.bl_turn.specs.Seats.{view_of}
use Rattle.bl_shared.specs.Calls.{PlansIn}
use Rattle.bl_rows.proofs.Hopeless.{job_made}
use Rattle.bl_rows.proofs.shared.job_for.Goals as goal

pub returns-in_ok-encode-in-Chain-clause-job : goal.returns-in_ok-encode-in-Chain-clause-job
returns-in_ok-encode-in-Chain-clause-job g c =
    let v = view_of c.glance.new.seat in
    let w = view_of c.plan.new.seat in
    let planned = subst (λ (p : Planned). PlansIn (view_of c.glance.new.seat) c.args.id
    c.args.form p (view_of c.plan.new.seat)) c.in-Chain.is c.in_ok-plan.ensures.planned in
    job_made v w c.args.id c.args.form c.in-Chain.plan c.in_ok-encode-in-Chain.field-0
    c.plans_make_jobs.ensures planned c.in_ok-encode-in-Chain.ensures
