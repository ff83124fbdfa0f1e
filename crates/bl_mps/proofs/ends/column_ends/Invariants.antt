use Rattle.std.proofs.Common.{◌≡◌, map, take}
use Rattle.bl_mps.specs.Meaning.{ends_set}
use Rattle.bl_cards.specs.Views.{card_of}
use Rattle.bl_mps.proofs.ends.column_ends.Given as goal

abbrev pub invariant-loop-card : goal.invariant-loop-card
invariant-loop-card l = l.ends.items ≡ map (ends_set (map card_of (take l.card-index l.cards)))
    l.names
