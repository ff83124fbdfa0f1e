use Rattle.bl_cards.proofs.FirstFault.{tells_ends, tells_lines}
use Rattle.bl_cards.proofs.laws.files_say_what_their_lines_say.Goals as goal

pub returns-clause-ends : goal.returns-clause-ends
returns-clause-ends c = tells_ends

pub returns-clause-lines : goal.returns-clause-lines
returns-clause-lines c = tells_lines
