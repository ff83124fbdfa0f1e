use Rattle.std.proofs.Common.{arith}
use Rattle.bl_desc.proofs.Canonical.{length-cut_status_after}
use Rattle.bl_desc.proofs.change.apply.Goals as goal

pub new_cut_status-requires : goal.new_cut_status-requires
new_cut_status-requires g c k d h =
    let len = length-cut_status_after c.args.change.now.cuts c.args.desc.now.cuts
    c.args.desc.now.cut_status c.requires.whole.cuts in
    let below = c.requires.fits.fresh k d h in
    omega (arith, len, below)
