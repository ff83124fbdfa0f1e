use Rattle.bl_tree.proofs.Jobs.{plan_later}
use Rattle.bl_tree.proofs.laws.plans_stay.Goals as goal

pub returns : goal.returns
returns c = plan_later
