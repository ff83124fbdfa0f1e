use Rattle.std.specs.Prelude.{reverse}
use Rattle.bl_journal.proofs.Lines.{line_to}
use Rattle.bl_journal.proofs.Workable.{desc_for}
use Rattle.bl_journal.proofs.laws.descriptions_are_whole.Goals as goal

pub returns : goal.returns
returns c = λ p s history l id born. record {
  desc = desc_for p s (reverse history) l.steps id born;
  below = λ parent is.
      let line = line_to p s (reverse history) l.steps id born parent is in
      record { before = line.below; part = line.part };
}
