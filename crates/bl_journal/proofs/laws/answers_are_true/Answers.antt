use Rattle.std.specs.Prelude.{reverse}
use Rattle.bl_journal.proofs.Meaning.{answer_means}
use Rattle.bl_journal.proofs.laws.answers_are_true.Goals as goal

pub returns : goal.returns
returns c = λ p s history l g. answer_means p s (reverse history) g l.steps
