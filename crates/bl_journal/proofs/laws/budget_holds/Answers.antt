use Rattle.std.specs.Prelude.{reverse}
use Rattle.bl_journal.proofs.Ends.{used_within}
use Rattle.bl_journal.proofs.Budget.{within_budget, nothing_lives}
use Rattle.bl_journal.proofs.laws.budget_holds.Goals as goal

pub returns : goal.returns
returns c = λ p s history l. record {
  few = used_within p s (reverse history) l.steps;
  within = λ some. within_budget p s (reverse history) l.steps;
  nothing = nothing_lives p s (reverse history) l.steps;
}
