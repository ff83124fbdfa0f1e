use Rattle.bl_mps.proofs.FirstFault.{is_one}
use Rattle.bl_mps.proofs.laws.files_have_a_problem_or_a_fault.Goals as goal

pub returns : goal.returns
returns c = is_one
