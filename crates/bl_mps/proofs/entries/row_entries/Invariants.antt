use Rattle.std.proofs.Common.{◌≡◌, map, take}
use Rattle.bl_mps.specs.Meaning.{entries_of}
use Rattle.bl_cards.specs.Views.{cell_of}
use Rattle.bl_mps.proofs.entries.row_entries.Given as goal

abbrev pub invariant-loop-cell : goal.invariant-loop-cell
invariant-loop-cell l = l.entries.items
    ≡ map (entries_of (map cell_of (take l.cell-index l.cells))) l.names
