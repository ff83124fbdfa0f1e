use Rattle.std.proofs.Common.{◌∙◌, sym, ap, List, [], replicate, ℕ}
use Rattle.bl_mps.specs.declared.entries.Entry.{Entry}
use Rattle.bl_mps.proofs.Lists.{same_each}
use Rattle.bl_mps.proofs.entries.row_entries.Goals as goal

pub loop-cell-init : goal.loop-cell-init
loop-cell-init c = c.in_ok-entries.ensures ∙ ap (λ (n : ℕ). replicate n []) c.len.ensures
    ∙ sym (same_each {B = List Entry} [] c.args.names.now)
