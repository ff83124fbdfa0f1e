use Rattle.bl_cards.specs.Lines.{given}
use Rattle.bl_cards.proofs.Faults.{fails_on}
use Rattle.bl_cards.proofs.given.RowNumbers.take_two.Goals as goal

pub returns-in-Err : goal.returns-in-Err
returns-in-Err c =
    fails_on c.in-Err.fault (given c.args.with_objective c.args.rows.now c.args.self.now
    c.args.first.0.now c.args.first.1.now) (λ s. given c.args.with_objective c.args.rows.now s
    c.args.second.0.now c.args.second.1.now) c.take.new.self c.take.new.self c.in-Err.ensures
