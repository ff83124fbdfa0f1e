-- What contracts see of a field.
use Rattle.std.specs.Prelude.{ℕ, List}
use Rattle.bl_write.specs.declared.line.Field.{Field}

abbrev pub field_of : Field → ℕ × List ℕ
field_of f = (f.column, f.word.now)
