use Rattle.std.specs.Prelude.{reverse}
use Rattle.bl_journal.specs.Descriptions.{full_of}
use Rattle.bl_journal.proofs.Named.{WasAdded, named}
use Rattle.bl_journal.proofs.Workable.{All-from_each}
use Rattle.bl_journal.proofs.laws.cuts_were_added.Goals as goal

pub returns : goal.returns
returns c = λ p s history l id born. All-from_each (WasAdded (reverse history))
    (full_of p (reverse history) id).cuts (named p s (reverse history) l.steps id born)
