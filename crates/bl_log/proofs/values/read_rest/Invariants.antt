use Rattle.std.proofs.Common.{◌≡◌, ℕ, List, []}
use Rattle.std.specs.Prelude.{All}
use Rattle.bl_log.specs.Spaced.{each}
use Rattle.bl_log.specs.Log.{natural}
use Rattle.bl_log.specs.Fits.{IsU32}
use Rattle.bl_log.proofs.Stepping.{IsLeft}
use Rattle.bl_log.proofs.values.read_rest.Given as goal

abbrev pub invariant-loop-word : goal.invariant-loop-word
invariant-loop-word l =
    (goal.iterator-loop-word).can_next l.words × (goal.iterator-loop-word).is_finite l.words
    × All IsU32 l.ids
    × ((ids : List ℕ) → All IsU32 ids → l.initial.words ≡ each natural ids
    → IsLeft natural IsU32 ids l.ids l.words [])
