use Rattle.bl_heur.proofs.Ending.{dives_end}
use Rattle.bl_heur.proofs.laws.dives_end.Goals as goal

pub returns : goal.returns
returns c = dives_end
