use Rattle.std.proofs.Common.{◌∙◌, subst}
use Rattle.bl_problem.specs.declared.cut.Cut.{Cut}
use Rattle.bl_rebuild.specs.declared.chain.Chain.{Chain}
use Rattle.std.specs.Prelude.{Option, IfSome}
use Rattle.bl_tree.specs.Chains.{described_by}
use Rattle.bl_tree.specs.Jobs.{IsChainAbove}
use Rattle.bl_tree.proofs.Jobs.{whole_made, relative_made}
use Rattle.bl_tree.proofs.plan.encode.Goals as goal

pub returns-in_ok-new-in-None : goal.returns-in_ok-new-in-None
returns-in_ok-new-in-None c =
    whole_made c.args.plan.now c.plan.inside.id c.plan.inside.chain c.plan.inside.above
    c.in_ok-new-in-None.field-0 c.plan.view_is c.in-None.is c.plan.invariant.0
    (c.in_ok-new-in-None.ensures ∙ c.in_ok-desc.ensures)

pub returns-in_ok-piece-in-Some : goal.returns-in_ok-piece-in-Some
returns-in_ok-piece-in-Some c =
    let f = subst (λ (o : Option (Chain Cut)). IfSome o
    (λ above. IsChainAbove above (described_by c.plan.inside.chain))) c.in-Some.is
    c.plan.invariant.1 in
    relative_made c.args.plan.now c.plan.inside.id c.plan.inside.chain c.plan.inside.above
    c.in-Some.above c.in_ok-desc.desc c.in_ok-piece-in-Some.piece c.plan.view_is c.in-Some.is
    c.plan.invariant.0 f.applicable c.in_ok-desc.ensures
    c.in_ok-piece-in-Some.ensures
