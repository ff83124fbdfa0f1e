use Rattle.bl_num.proofs.Readings.{reads_spelled, refuses_others}
use Rattle.bl_num.proofs.Scaled.{canonical_same}
use Rattle.bl_num.proofs.laws.spelled_texts_read_as_their_values.Goals as goal

pub returns : goal.returns
returns c = record { spelled = reads_spelled; others = refuses_others; one = canonical_same }
