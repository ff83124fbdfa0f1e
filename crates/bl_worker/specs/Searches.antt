-- The search by many seats.
use Rattle.std.specs.Prelude.{◌≡◌, ℕ, ◌≤◌, All}
use Rattle.bl_journal.specs.Freeing.{HasNothingToFree}
use Rattle.bl_journal.specs.Legality.{seat_of}
use Rattle.bl_journal.specs.Tidying.{IsTidied}
use Rattle.bl_tree.specs.Views.{TreeView, past_of}
use Rattle.bl_turn.specs.Entries.{FromOneTo}
use Rattle.bl_journal.specs.Seats.{HasNoneOut, IsOver}

-- the workers have ended on a new tree: the entries are theirs, no node is out, each has tidied,
-- and the search is over
pub record IsWorkedThrough (workers : ℕ) (old new : TreeView) : Type 0 where
  pub problem : new.problem ≡ old.problem
  pub settings : new.settings ≡ old.settings
  pub by_workers : FromOneTo seat_of workers new.history
  pub none_out : HasNoneOut new.history
  pub tidied : (seat : ℕ) → 1 ≤ seat → seat ≤ workers
      → IsTidied new.problem new.settings seat (past_of new)
  pub over : IsOver new.problem new.settings (past_of new)

-- then seat 0 has freed what may be freed: the entries are by seats up to the workers' number,
-- and each of these has tidied
pub record IsWoundUp (workers : ℕ) (t : TreeView) : Type 0 where
  pub few : All (λ e. seat_of e ≤ workers) t.history
  pub none_out : HasNoneOut t.history
  pub tidied : (seat : ℕ) → seat ≤ workers → IsTidied t.problem t.settings seat (past_of t)
  pub nothing_to_free : HasNothingToFree t.problem t.settings (past_of t)
  pub over : IsOver t.problem t.settings (past_of t)
