use Rattle.bl_simplex.proofs.proposal.choice_of.Goals as goal

pub returns-in-Infeasible : goal.returns-in-Infeasible
returns-in-Infeasible c = c.none.ensures _ _
