use Rattle.std.proofs.Common.{◌∙◌, ap, subst}
use Rattle.bl_desc.specs.declared.desc.Form.TheVariants.{Explicit}
use Rattle.bl_tree.specs.declared.plan.Planned.{Planned}
use Rattle.bl_tree.specs.Jobs.{PlanView}
use Rattle.bl_turn.specs.Seats.{view_of}
use Rattle.bl_shared.specs.Calls.{PlansIn}
use Rattle.bl_worker.proofs.Steps.{kept_up_then, looks_kept, plan_kept, plan_of, install_kept}
use Rattle.bl_worker.proofs.Steps.{install_stores}
use Rattle.bl_worker.proofs.worker.store_whole.Goals as goal

pub returns-in_err-install-in-Chain-clause-kept : goal.returns-in_err-install-in-Chain-clause-kept
returns-in_err-install-in-Chain-clause-kept g c =
    let v = view_of c.args.seat.now in
    let planned = view_of c.plan.new.seat in
    let w = view_of c.install.new.seat in
    kept_up_then v planned w (plan_kept v planned c.args.id Explicit c.in_ok-plan.field-0
    c.in_ok-plan.ensures.planned) (looks_kept planned w c.in_err-install-in-Chain.ensures.err)

pub returns-in_ok-install-in-Chain-clause-kept : goal.returns-in_ok-install-in-Chain-clause-kept
returns-in_ok-install-in-Chain-clause-kept g c =
    let v = view_of c.args.seat.now in
    let planned = view_of c.plan.new.seat in
    let w = view_of c.install.new.seat in
    kept_up_then v planned w (plan_kept v planned c.args.id Explicit c.in_ok-plan.field-0
    c.in_ok-plan.ensures.planned)
    (install_kept planned w c.in_ok-job-in-Chain.job c.in_ok-install-in-Chain.field-0
    c.in_ok-install-in-Chain.ensures.installed)

pub returns-in_ok-install-in-Chain-clause-whole : goal.returns-in_ok-install-in-Chain-clause-whole
returns-in_ok-install-in-Chain-clause-whole g c =
    let v = view_of c.args.seat.now in
    let planned = view_of c.plan.new.seat in
    let w = view_of c.install.new.seat in
    let plan = plan_of v planned c.args.id c.in-Chain.plan
    (subst (λ (x : Planned). PlansIn v c.args.id Explicit x planned) c.in-Chain.is
    c.in_ok-plan.ensures.planned) in
    let made = c.in_ok-job-in-Chain.ensures in
    install_stores planned w c.args.id c.in_ok-job-in-Chain.job c.in_ok-install-in-Chain.field-0
    (made.id ∙ ap (λ (p : PlanView). p.id) plan.is)
    (made.form ∙ ap (λ (p : PlanView). p.form) plan.is)
    c.in_ok-install-in-Chain.ensures.installed

pub returns-in-Gone-clause-kept : goal.returns-in-Gone-clause-kept
returns-in-Gone-clause-kept g c =
    plan_kept (view_of c.args.seat.now) (view_of c.plan.new.seat) c.args.id Explicit
    c.in_ok-plan.field-0 c.in_ok-plan.ensures.planned

pub returns-in-Same-clause-kept : goal.returns-in-Same-clause-kept
returns-in-Same-clause-kept g c =
    plan_kept (view_of c.args.seat.now) (view_of c.plan.new.seat) c.args.id Explicit
    c.in_ok-plan.field-0 c.in_ok-plan.ensures.planned
