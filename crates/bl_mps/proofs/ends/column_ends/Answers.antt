use Rattle.std.proofs.Common.{◌∙◌, sym, ap, ℕ, None, replicate}
use Rattle.std.specs.declared.option.Option.{Option}
use Rattle.bl_mps.specs.declared.ends.Ends.{Ends}
use Rattle.bl_mps.proofs.Lists.{same_each}
use Rattle.bl_mps.proofs.ends.column_ends.Goals as goal

pub loop-card-init : goal.loop-card-init
loop-card-init c = c.in_ok-ends.ensures ∙ ap (λ (n : ℕ). replicate n None) c.len.ensures
    ∙ sym (same_each {B = Option Ends} None c.args.names.now)
