use Rattle.std.specs.Prelude.{reverse}
use Rattle.bl_journal.proofs.Births.{children_follow}
use Rattle.bl_journal.proofs.laws.children_follow.Goals as goal

pub returns : goal.returns
returns c = λ p s history l put. children_follow p s (reverse history) put
