use Rattle.std.proofs.Common.{◌≡◌, ◌≤◌}
use Rattle.bl_journal.specs.States.{used_of}
use Rattle.bl_journal.specs.Tidying.{splits_of}
use Rattle.bl_tree.specs.Views.{past_of}
use Rattle.bl_search.specs.Searches.{IsBetweenTurns, AreSerialsBelow}
use Rattle.bl_search.specs.Places.{MayAnswer, SplitsAt}
use Rattle.bl_search.proofs.search.search_tree.Given as goal

abbrev pub invariant-loop-turn : goal.invariant-loop-turn
invariant-loop-turn g l = record {
  between : IsBetweenTurns l.tree;
  problem : l.tree.problem ≡ l.initial.tree.problem;
  settings : l.tree.settings ≡ l.settings;
  used : used_of (past_of l.tree) ≡ l.turn;
  splits : l.splits ≡ splits_of 0 (past_of l.tree);
  serials : AreSerialsBelow 0 l.serial (past_of l.tree);
  places : SplitsAt (MayAnswer g.F.Fn l.rule.closure) l.initial.tree.problem (past_of l.tree);
  few : l.splits ≤ l.turn;
}
