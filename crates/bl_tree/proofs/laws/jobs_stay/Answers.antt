use Rattle.bl_tree.proofs.Jobs.{job_later}
use Rattle.bl_tree.proofs.laws.jobs_stay.Goals as goal

pub returns : goal.returns
returns c = job_later
