use Rattle.std.proofs.Common.{◌≡◌, ◌++◌, map}
use Rattle.bl_text.specs.Pieces.{words_of}
use Rattle.bl_cards.proofs.reader.all_words.Given as goal

abbrev pub invariant-loop-word : goal.invariant-loop-word
invariant-loop-word l = map (λ w. w.now) l.all.items ++ l.word-iterator ≡ words_of l.line
