use Rattle.std.proofs.Common.{[], refl}
use Rattle.bl_text.proofs.Cuts.{no_word}
use Rattle.bl_text.proofs.Together.{words_of-blank, words_of-ended, words_of-last}
use Rattle.bl_text.proofs.laws.words_are_runs_without_blanks.Goals as goal

pub returns : goal.returns
returns c = record {
  none = no_word [] [] refl refl;
  blank = words_of-blank;
  ended = words_of-ended;
  last = words_of-last;
}
