use Rattle.std.proofs.Common.{◌≡◌, ◌<◌, true, take, drop}
use Rattle.std.specs.Prelude.{All}
use Rattle.bl_mods.specs.Rising.{AreRising, is_rising_from, places}
use Rattle.bl_log.proofs.values.rising_mods.Given as goal

abbrev pub invariant-loop-entry : goal.invariant-loop-entry
invariant-loop-entry g l =
    (l.mods ≡ take l.entry-index l.list) × All (λ m. m.place < l.least) l.mods × AreRising l.mods
    × (AreRising l.list → is_rising_from l.least (places (drop l.entry-index l.list)) ≡ true)
