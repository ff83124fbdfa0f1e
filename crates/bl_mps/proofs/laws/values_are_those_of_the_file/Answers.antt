use Rattle.bl_mps.proofs.Values.{shows_file_values, less_is_better}
use Rattle.bl_mps.proofs.laws.values_are_those_of_the_file.Goals as goal

pub returns-clause-shown : goal.returns-clause-shown
returns-clause-shown c = shows_file_values

pub returns-clause-order : goal.returns-clause-order
returns-clause-order c = less_is_better
