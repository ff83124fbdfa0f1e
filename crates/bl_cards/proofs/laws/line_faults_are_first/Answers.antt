use Rattle.bl_cards.proofs.FirstFault.{tells_first_line}
use Rattle.bl_cards.proofs.laws.line_faults_are_first.Goals as goal

pub returns : goal.returns
returns c = tells_first_line
