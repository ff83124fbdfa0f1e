-- How what a tree keeps follows its history.
use Rattle.std.specs.Prelude.{◌≡◌, ℕ, ◌+◌, ◌*◌, ◌≤◌, ◌<◌, true, length, count_by, reverse}
use Rattle.std.specs.Prelude.{vec_capacity}
use Rattle.bl_journal.specs.Births.{nodes_of}
use Rattle.bl_journal.specs.States.{best_of, cutoff_for}
use Rattle.bl_journal.specs.Freeing.{is_freeable}
use Rattle.bl_journal.specs.Replies.{is_out}
use Rattle.bl_tree.specs.declared.tree.Tree.TheInside.{Inside}
use Rattle.bl_tree.specs.Records.{IsKept, StandsAt, AreQueued, AreCandidates, IsCandidate}
use Rattle.bl_tree.specs.Records.{is_listed}

-- the nodes, the pools, the counts and the best point follow the history; the pools of the waiting
-- nodes and of the candidates have room for a put or a back of each node that is out
pub record IsTree (t : Inside) : Type 0 where
  pub follows : IsKept t.problem t.settings (reverse t.journal.entries) t.journal.room
      (vec_capacity t.kept.records) t.kept.records.items t.kept.used t.kept.best
  pub stands : StandsAt (best_of t.problem (reverse t.journal.entries)) t.journal.entries
      t.kept.best_place
  pub queued : AreQueued t.settings.order
      (cutoff_for t.problem t.settings (reverse t.journal.entries))
      t.kept.records.items t.kept.waiting
  pub waiting_room : 2 * t.kept.outs ≤ t.kept.waiting.room
  pub waiting_below : length t.kept.records.items + 2 * t.kept.outs ≤ length t.kept.waiting.keys
  pub outs_is : t.kept.outs ≡ count_by (λ r. is_out r.stage) t.kept.records.items
  pub covered : (id : ℕ) → id < length (nodes_of t.problem (reverse t.journal.entries))
      → is_freeable t.problem t.settings (reverse t.journal.entries) id ≡ true
      → IsCandidate (is_listed t.kept.candidates) t.kept.fell (reverse t.journal.entries) id
  pub listed : AreCandidates t.kept.candidates
  pub candidate_room : 3 * t.kept.outs ≤ t.kept.candidates.room
  pub candidate_below : length t.kept.records.items + 2 * t.kept.outs
      ≤ length t.kept.candidates.keys
