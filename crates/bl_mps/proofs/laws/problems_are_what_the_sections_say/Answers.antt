use Rattle.bl_mps.proofs.FirstFault.{tells_meaning}
use Rattle.bl_mps.proofs.laws.problems_are_what_the_sections_say.Goals as goal

pub returns : goal.returns
returns c = tells_meaning c.files_say_what_their_lines_say.ensures.lines
