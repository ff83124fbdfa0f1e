use Rattle.bl_cards.proofs.CoherentLines.{nothing_coherent}
use Rattle.bl_cards.proofs.reader.Reader.new.Goals as goal

pub returns-clause-coherent : goal.returns-clause-coherent
returns-clause-coherent c = rw (
  c.new.ensures,
  c.new-2.ensures,
  c.new-3.ensures,
  c.new-4.ensures,
  c.new-5.ensures,
) nothing_coherent
