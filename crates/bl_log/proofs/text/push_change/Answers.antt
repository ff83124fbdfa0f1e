use Rattle.bl_log.specs.Log.{bounds_and_cuts, statuses}
use Rattle.bl_log.proofs.Laid.{laid_then}
use Rattle.bl_log.proofs.text.push_change.Goals as goal

pub returns-clause-laid : goal.returns-clause-laid
returns-clause-laid c = laid_then _ _ _ (bounds_and_cuts c.args.change.now)
    (statuses c.args.change.now) c.in_ok-push_bounds_and_cuts.ensures.laid
    c.in_ok-push_statuses.ensures.laid
