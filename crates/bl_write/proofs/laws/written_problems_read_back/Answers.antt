use Rattle.std.proofs.Common.{◌≡◌, ◌∙◌, ap, length}
use Rattle.std.specs.Prelude.{Ok}
use Rattle.bl_problem.specs.Program.{IsProgram, Program}
use Rattle.bl_cards.specs.Said.{◌>>=◌}
use Rattle.bl_cards.specs.Reading.{at_line}
use Rattle.bl_mps.specs.Meaning.{finished}
use Rattle.bl_mps.specs.Reading.{read_of}
use Rattle.bl_write.specs.Written.{lines_for, written}
use Rattle.bl_write.proofs.Frame.{written_said}
use Rattle.bl_write.proofs.Meaning.{said_means}
use Rattle.bl_write.proofs.Plain.{all_plain}
use Rattle.bl_write.proofs.laws.written_problems_read_back.Goals as goal

read_back : (p : Program) → IsProgram p → read_of (written p) ≡ Ok p
unfolding read_of
read_back p h =
    ap (λ r. r >>= λ w. at_line w.last (finished w.said)) (written_said p h (all_plain p h))
    ∙ ap (at_line (length (lines_for p))) (said_means p h)

pub returns : goal.returns
returns c = read_back
