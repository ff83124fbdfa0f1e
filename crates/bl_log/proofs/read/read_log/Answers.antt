use Rattle.bl_log.proofs.Lines.{gives_back, tells_bad}
use Rattle.bl_log.proofs.read.read_log.Goals as goal

pub returns-clause-back : goal.returns-clause-back
returns-clause-back c = gives_back (λ j. j.entries) c.args.bytes.now c.read_lines.result
    c.read_lines.ensures.text c.read_lines.ensures.fits c.read_lines.ensures.line

pub returns-clause-exact : goal.returns-clause-exact
returns-clause-exact c = tells_bad (λ j. j.entries) c.args.bytes.now c.read_lines.result
    c.read_lines.ensures.text c.read_lines.ensures.fits c.read_lines.ensures.line
