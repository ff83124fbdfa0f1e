use Rattle.std.proofs.Common.{◌≡◌, ◌++◌, take}
use Rattle.std.specs.Prelude.{All}
use Rattle.std.specs.String.{string_bytes}
use Rattle.bl_log.specs.Spaced.{spaced, each}
use Rattle.bl_log.proofs.spell.push_each.Given as goal

abbrev pub invariant-loop-x : goal.invariant-loop-x
invariant-loop-x g l =
    (string_bytes l.text ≡ string_bytes l.initial.text
    ++ spaced (each g.T.Spell.spelled (take l.x-index l.list)))
    × All g.T.Spell.fits (take l.x-index l.list)
