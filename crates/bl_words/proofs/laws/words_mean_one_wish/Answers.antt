use Rattle.bl_words.proofs.Ranges.{one_wish}
use Rattle.bl_words.proofs.laws.words_mean_one_wish.Goals as goal

pub returns : goal.returns
returns c = one_wish
