use Rattle.std.proofs.Common.{◌≡◌, ◌≤◌, ◌+◌, ◌++◌, length}
use Rattle.std.specs.Prelude.{All}
use Rattle.bl_log.specs.Log.{text_of}
use Rattle.bl_log.specs.Fits.{Fits}
use Rattle.bl_log.proofs.read.read_lines.Given as goal

abbrev pub invariant-loop-rest : goal.invariant-loop-rest
invariant-loop-rest l =
    (l.bytes ≡ text_of l.journal.entries ++ l.rest) × All Fits l.journal.entries
    × (length l.journal.entries + length l.rest ≤ length l.bytes)

abbrev pub decreases-loop-rest : goal.decreases-loop-rest
decreases-loop-rest l = length l.rest
