use Rattle.std.proofs.Common.{None}
use Rattle.bl_mps.specs.Views.{row_said}
use Rattle.bl_mps.proofs.Units.{places_few, places_above}
use Rattle.bl_mps.proofs.finish.make_objective.Goals as goal

pub offset-requires-clause-few : goal.offset-requires-clause-few
offset-requires-clause-few c = rw c.places_of-scale.ensures
    (places_few (row_said c.args.entries.now c.args.right None) c.requires.read)

pub terms-requires-clause-finer : goal.terms-requires-clause-finer
terms-requires-clause-finer c =
    rw c.places_of-scale.ensures (places_above (row_said c.args.entries.now c.args.right None))

pub terms-requires-clause-few : goal.terms-requires-clause-few
terms-requires-clause-few c = rw c.places_of-scale.ensures
    (places_few (row_said c.args.entries.now c.args.right None) c.requires.read)
