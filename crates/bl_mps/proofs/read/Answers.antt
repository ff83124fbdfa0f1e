use Rattle.std.proofs.Common.{Err, subst}
use Rattle.bl_text.specs.Pieces.{lines_of}
use Rattle.bl_cards.specs.declared.reader.Whole.{Whole}
use Rattle.bl_cards.specs.Said.{Said}
use Rattle.bl_cards.specs.Reading.{said_from}
use Rattle.bl_cards.specs.Views.{Reads}
use Rattle.bl_mps.proofs.Files.{line_fault}
use Rattle.bl_mps.proofs.read.Goals as goal

pub finish-requires : goal.finish-requires
finish-requires c = c.in-Ok.ensures.coherent c.new.ensures.coherent

pub returns : goal.returns
returns c =
    line_fault c.in-Err.fault c.args.bytes.now
    (subst (λ (s : Said). Reads {A = Whole} (Err c.in-Err.fault)
    (said_from 0 s (lines_of c.args.bytes.now))) c.new.ensures.nothing c.in-Err.ensures.said)
