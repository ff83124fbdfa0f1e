-- What contracts see of a journal.
use Rattle.std.specs.Prelude.{ℕ, List}
use Rattle.bl_journal.specs.declared.entry.Entry.{Entry}

pub record Kept : Type 0 where
  pub entries : List Entry
  pub room : ℕ
