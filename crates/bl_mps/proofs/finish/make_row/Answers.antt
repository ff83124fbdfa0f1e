use Rattle.bl_mps.specs.Views.{row_said}
use Rattle.bl_mps.proofs.Units.{places_few, places_above}
use Rattle.bl_mps.proofs.finish.make_row.Goals as goal

pub row_ends-requires-clause-few : goal.row_ends-requires-clause-few
row_ends-requires-clause-few c = rw c.places_of-places.ensures
    (places_few (row_said c.args.entries.now c.args.right c.args.range) c.requires.read)

pub terms-requires-clause-finer : goal.terms-requires-clause-finer
terms-requires-clause-finer c = rw c.places_of-places.ensures
    (places_above (row_said c.args.entries.now c.args.right c.args.range))

pub terms-requires-clause-few : goal.terms-requires-clause-few
terms-requires-clause-few c = rw c.places_of-places.ensures
    (places_few (row_said c.args.entries.now c.args.right c.args.range) c.requires.read)
