use Rattle.std.specs.Prelude.{reverse}
use Rattle.bl_journal.proofs.Newborns.{children_stored}
use Rattle.bl_journal.proofs.laws.newborns_are_stored.Goals as goal

pub returns : goal.returns
returns c = λ p s history l put. children_stored p s (reverse history) put l.steps
