use Rattle.std.proofs.Common.{◌∷◌, ◌++◌, List, codes}
use Rattle.bl_log.specs.Spaced.{Text, listed}
use Rattle.bl_log.specs.Log.{placed, integer, natural, cut}
use Rattle.bl_log.proofs.Laid.{laid_then}
use Rattle.bl_log.proofs.text.push_bounds_and_cuts.Goals as goal

pub returns-clause-laid : goal.returns-clause-laid
returns-clause-laid c =
    let lows : List Text = codes "lows" ∷ listed (placed integer) c.args.change.now.lows in
    let highs : List Text = codes "highs" ∷ listed (placed integer) c.args.change.now.highs in
    let dropped : List Text = codes "drop" ∷ listed natural c.args.change.now.cuts.dropped in
    let added : List Text = codes "add" ∷ listed cut c.args.change.now.cuts.added in
    laid_then _ _ _ lows (highs ++ (dropped ++ added)) c.in_ok-push_mods.ensures.laid
    (laid_then _ _ _ highs (dropped ++ added) c.in_ok-push_mods-2.ensures.laid
    (laid_then _ _ _ dropped added c.in_ok-push_dropped.ensures.laid
    c.in_ok-push_added.ensures.laid))
