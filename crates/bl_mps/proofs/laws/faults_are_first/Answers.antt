use Rattle.bl_mps.proofs.FirstFault.{tells_first_fault}
use Rattle.bl_mps.proofs.laws.faults_are_first.Goals as goal

pub returns : goal.returns
returns c = tells_first_fault c.line_faults_are_first.ensures
    c.files_say_what_their_lines_say.ensures.ends
