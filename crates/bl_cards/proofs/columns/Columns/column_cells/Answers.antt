use Rattle.bl_cards.specs.Lines.{column_cell, cell}
use Rattle.bl_cards.proofs.Faults.{fails_on}
use Rattle.bl_cards.proofs.columns.Columns.column_cells.Goals as goal

pub returns-in-Err : goal.returns-in-Err
returns-in-Err c =
    fails_on c.in-Err.fault (column_cell c.args.rows.now c.args.self.now c.args.name.now
    c.args.first.0.now c.args.first.1.now) (λ g. cell c.args.rows.now g c.args.second.0.now
    c.args.second.1.now) c.column_cell.new.self c.column_cell.new.self c.in-Err.ensures.said
