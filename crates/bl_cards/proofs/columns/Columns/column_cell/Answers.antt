use Rattle.bl_cards.specs.Lines.{at_column, cell}
use Rattle.bl_cards.proofs.Faults.{fails_on}
use Rattle.bl_cards.proofs.columns.Columns.column_cell.Goals as goal

pub returns-in-Err-clause-said : goal.returns-in-Err-clause-said
returns-in-Err-clause-said c =
    fails_on c.in-Err.fault (at_column c.args.self.now c.args.name.now)
    (λ here. cell c.args.rows.now here c.args.row.now c.args.word.now) c.start.new.self
    c.start.new.self c.in-Err.ensures.said
