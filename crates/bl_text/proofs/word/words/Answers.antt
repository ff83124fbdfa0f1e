use Rattle.bl_text.proofs.Bytes.{words_of-length, words_of-no_blank}
use Rattle.bl_text.proofs.Cuts.{few_words}
use Rattle.bl_text.proofs.word.words.Goals as goal

pub returns-clause-few : goal.returns-clause-few
returns-clause-few c = few_words c.args.line.now

pub returns-clause-filled : goal.returns-clause-filled
returns-clause-filled c = words_of-length c.args.line.now

pub returns-clause-unbroken : goal.returns-clause-unbroken
returns-clause-unbroken c = words_of-no_blank c.args.line.now
