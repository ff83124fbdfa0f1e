use Rattle.std.proofs.Common.{◌≡◌, ◌++◌, List, length}
use Rattle.std.specs.Prelude.{All}
use Rattle.bl_log.specs.Spaced.{Text, each}
use Rattle.bl_log.proofs.Stepping.{IsLeft}
use Rattle.bl_log.proofs.spell.read_several.Given as goal

abbrev pub invariant-loop : goal.invariant-loop
invariant-loop g l =
    (length l.list ≡ l.counter)
    × All g.T.Spell.fits l.list
    × ((xs : List g.row.T.Denot) (rest : List Text) → length xs ≡ l.count → All g.T.Spell.fits xs
    → l.initial.words ≡ each g.T.Spell.spelled xs ++ rest
    → IsLeft g.T.Spell.spelled g.T.Spell.fits xs l.list l.words rest)
