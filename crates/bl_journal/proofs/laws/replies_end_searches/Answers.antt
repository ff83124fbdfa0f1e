use Rattle.std.specs.Prelude.{reverse}
use Rattle.bl_journal.proofs.Ends.{done_ends, done_is_final, spent_ends, spent_is_short}
use Rattle.bl_journal.proofs.laws.replies_end_searches.Goals as goal

pub returns : goal.returns
returns c = λ p s history l. record {
  at_done = λ e. record {
    none_live = done_ends p s (reverse history) e;
    decided = done_is_final p s (reverse history) e;
  };
  at_spent = λ e. record {
    all_used = spent_ends p s (reverse history) l.steps e;
    budget = spent_is_short p s (reverse history) l.steps e;
  };
}
