use Rattle.std.proofs.Common.{◌≡◌, ◌+◌, length}
use Rattle.bl_text.specs.Pieces.{lines_of}
use Rattle.bl_cards.specs.Reading.{said_from}
use Rattle.bl_cards.proofs.reader.Reader.file.Given as goal

abbrev pub invariant-loop-line : goal.invariant-loop-line
invariant-loop-line l = record {
  goes_on : said_from l.last l.self l.walk.lines ≡ said_from 0 l.fn.self (lines_of l.fn.bytes);
  number : l.walk.number ≡ l.last + 1;
  few : l.last + length l.walk.lines ≡ length (lines_of l.fn.bytes);
}
