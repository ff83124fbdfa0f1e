use Rattle.std.proofs.Common.{rules, ◌≡◌, ◌∷◌, []}
use Rattle.bl_turn.specs.declared.view.Slot.TheVariants.{Home}
use Rattle.bl_turn.proofs.Steps.{starts}
use Rattle.bl_turn.proofs.turn.Turn.new.Goals as goal

pub new-requires : goal.new-requires
new-requires g c = let slots : c.in_ok-slots.slots.items ≡ Home c.of-note.result.value ∷ [] =
    search rules in rw slots (starts g.V.Told.by g.V.Told.told g.V.Told.base c.of-note.result.value)
