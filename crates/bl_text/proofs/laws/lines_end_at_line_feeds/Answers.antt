use Rattle.std.proofs.Common.{[], refl}
use Rattle.bl_text.proofs.Cuts.{no_line}
use Rattle.bl_text.proofs.Together.{lines_of-ended, lines_of-last, without_return-drops}
use Rattle.bl_text.proofs.Together.{without_return-keeps}
use Rattle.bl_text.proofs.laws.lines_end_at_line_feeds.Goals as goal

pub returns : goal.returns
returns c = record {
  none = no_line [] refl;
  ended = lines_of-ended;
  last = lines_of-last;
  dropped = without_return-drops;
  kept = without_return-keeps;
}
