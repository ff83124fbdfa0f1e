use Rattle.std.proofs.Common.{◌≡◌, ◌<◌, true, take, drop}
use Rattle.std.specs.Prelude.{All}
use Rattle.bl_mods.specs.Rising.{IsRising, is_rising_from}
use Rattle.bl_log.proofs.values.rising_places.Given as goal

abbrev pub invariant-loop-place : goal.invariant-loop-place
invariant-loop-place l =
    (l.places ≡ take l.place-index l.list) × All (λ p. p < l.least) l.places × IsRising l.places
    × (IsRising l.list → is_rising_from l.least (drop l.place-index l.list) ≡ true)
