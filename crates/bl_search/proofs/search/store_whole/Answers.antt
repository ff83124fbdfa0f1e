use Rattle.std.proofs.Common.{ap, ◌∙◌}
use Rattle.bl_tree.specs.Jobs.{PlanView}
use Rattle.bl_search.proofs.Tidying.{stored_whole}
use Rattle.bl_search.proofs.search.store_whole.Goals as goal

pub returns-in_ok-install-in-Chain : goal.returns-in_ok-install-in-Chain
returns-in_ok-install-in-Chain c =
    let planned = (rw c.in-Chain.is at c.in_ok-plan.ensures).1 in
    let made = c.in_ok-job-in-Chain.ensures in
    stored_whole c.args.tree.now c.install.new.self c.args.id c.in_ok-job-in-Chain.job
    c.in_ok-install-in-Chain.field-0 (made.id ∙ ap (λ (v : PlanView). v.id) planned.is)
    (made.form ∙ ap (λ (v : PlanView). v.form) planned.is)
    c.in_ok-install-in-Chain.ensures.installed
