use Rattle.bl_num.proofs.Readings.{writes_readably, reads_within, canonical_reads_back}
use Rattle.bl_num.proofs.laws.written_numbers_read_back.Goals as goal

pub returns : goal.returns
returns c = record { back = writes_readably; within = reads_within; same = canonical_reads_back }
