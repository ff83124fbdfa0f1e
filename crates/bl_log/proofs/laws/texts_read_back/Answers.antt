use Rattle.bl_log.proofs.Journals.{first_bad_is_one, no_bad_line, text_determines}
use Rattle.bl_log.proofs.laws.texts_read_back.Goals as goal

pub returns : goal.returns
returns c = record { one = text_determines; good = no_bad_line; first = first_bad_is_one }
