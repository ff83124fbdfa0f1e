use Rattle.bl_rows.proofs.Hopeless.{shut_outcome}
use Rattle.bl_rows.proofs.shared.halve.Goals as goal

pub returns : goal.returns
returns c = shut_outcome c.args.desc.now c.args.form
