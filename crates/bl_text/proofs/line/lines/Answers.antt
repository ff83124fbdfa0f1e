use Rattle.bl_text.proofs.Bytes.{lines_of-no_line_feed}
use Rattle.bl_text.proofs.Cuts.{few_lines}
use Rattle.bl_text.proofs.line.lines.Goals as goal

pub returns-clause-few : goal.returns-clause-few
returns-clause-few c = few_lines c.args.bytes.now

pub returns-clause-unbroken : goal.returns-clause-unbroken
returns-clause-unbroken c = lines_of-no_line_feed c.args.bytes.now
