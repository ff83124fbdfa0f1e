use Rattle.std.proofs.Common.{◌∷◌, ◌++◌, List, codes}
use Rattle.bl_log.specs.Spaced.{Text, listed}
use Rattle.bl_log.specs.Log.{placed, status}
use Rattle.bl_log.proofs.Laid.{laid_then}
use Rattle.bl_log.proofs.text.push_statuses.Goals as goal

pub returns-clause-laid : goal.returns-clause-laid
returns-clause-laid c =
    let columns : List Text = codes "cols" ∷ listed (placed status) c.args.change.now.columns in
    let rows : List Text = codes "rows" ∷ listed (placed status) c.args.change.now.rows in
    let cuts : List Text = codes "cuts" ∷ listed (placed status) c.args.change.now.fresh in
    laid_then _ _ _ columns (rows ++ cuts) c.in_ok-push_mods.ensures.laid
    (laid_then _ _ _ rows cuts c.in_ok-push_mods-2.ensures.laid
    c.in_ok-push_mods-3.ensures.laid)
