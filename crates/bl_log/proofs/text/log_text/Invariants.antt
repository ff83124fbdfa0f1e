use Rattle.std.proofs.Common.{◌≡◌, take}
use Rattle.std.specs.Prelude.{All}
use Rattle.bl_log.specs.Fits.{Fits}
use Rattle.std.specs.String.{string_bytes}
use Rattle.bl_log.specs.Log.{text_of}
use Rattle.bl_log.proofs.text.log_text.Given as goal

abbrev pub invariant-loop-entry : goal.invariant-loop-entry
invariant-loop-entry l = (string_bytes l.text ≡ text_of (take l.entry-index l.entry-items))
    × All Fits (take l.entry-index l.entry-items)
