use Rattle.bl_tree.proofs.Jobs.{made_job}
use Rattle.bl_tree.proofs.laws.plans_make_jobs.Goals as goal

pub returns : goal.returns
returns c = made_job
